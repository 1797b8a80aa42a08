-- Walking over settings from a state on: each change stays within the table and the marks; what is left of the walk, behind what was
-- walked over, tells the same as the whole. The start of a run is walked as a change in the initial state, which visits one couple twice.
use mathlib.Core.Path.{◌≡◌, refl, sym, ap, subst, ◌∙◌}
use mathlib.Core.Logic.{◌↔◌, ⊎_elim, inl, inr}
use mathlib.Core.List.{List, [], ◌∷◌, ◌++◌, append_assoc, append-nil}
use Prim.Native.Nat.{ℕ, ◌+◌, ◌-◌, ◌≤◌, ◌<◌}
use native.Mathlib.Numerals.{add-one}
use native.Mathlib.Omega.{arith}
use lib.ListN.{length, get_or, set, take, drop, length-drop}
use lib.Seq.{drop-cons, drop-length, get_or-drop, set-set, set-get_or}
use Rattle.verdict.proofs.Fills.{rest_lent}
use Rattle.machine.specs.Lists.{In}
use Rattle.machine.specs.Runs.{Machine, couple, Run, visits_from, visits}
use Rattle.machine.proofs.Members.{in_back, in_either}
use Rattle.machine.proofs.Stored.{setting_below}
use Rattle.tables.specs.Tables.{machine_in}
use Rattle.shorten.specs.inner.Passing.{Walkable, Changed, noted, Reach, Stops, Few}
use Rattle.shorten.specs.inner.Marked.{marked}
use Rattle.shorten.specs.declared.Passes.{Passes}
use Rattle.shorten.specs.declared.Visited.{Visited}
use Rattle.shorten.specs.declared.Place.{Place}

-- a run from its start
pub walk_run : {m : Machine} (run : List ℕ) → m.initial < m.states → Run m run → Walkable m m.initial run
walk_run {m} run h r = record { state = h; below = setting_below m run r }

-- setting i visits two couples, and the settings behind it the others
module _ {m : Machine} (run : List ℕ) {s i w : ℕ} {r : Visited} (h : i < length run) (e : w ≡ get_or run i 0) (c : Changed m s w r) where
  ahead : visits_from m s (drop i run) ≡ r.entered ∷ r.moved ∷ visits_from m r.state (drop (i + 1) run)
  ahead = ap (visits_from m s) (drop-cons run i 0 h) ∙ rw (c.entered, c.moved, c.state, e, add-one) refl

-- Marking: what is left, from setting i in state s on, ends as the whole does.
pub record Marking (s₀ : ℕ) (run : List ℕ) (x : ℕ) (k₀ k : Passes) (s i : ℕ) : Type 0 where
  pub state : s < k.sound.job.frame.states
  pub same : marked (visits_from (machine_in k.sound.job) s (drop i run)) x k ≡ marked (visits_from (machine_in k₀.sound.job) s₀ run) x k₀

-- marks of two lists of couples
reach_both : {cs ds : List ℕ} {x : ℕ} {marks : List ℕ} → Reach cs x marks → Reach ds x marks → Reach (cs ++ ds) x marks
reach_both {cs} {ds} a b = record { each = λ c i. ⊎_elim (a.each c) (b.each c) (in_either c cs ds i) }

reach_back : (cs ds : List ℕ) {x : ℕ} {marks : List ℕ} → Reach (cs ++ ds) x marks → Reach ds x marks
reach_back cs ds a = record { each = λ c i. a.each c (in_back c cs ds i) }

-- Reaching: the couples in front of what is left have marks of at least x.
pub record Reaching (m : Machine) (s₀ : ℕ) (run : List ℕ) (x : ℕ) (marks : List ℕ) (s i : ℕ) : Type 0 where
  pub within : i ≤ length run
  pub state : s < m.states
  pub front : List ℕ
  pub walked : visits_from m s₀ run ≡ front ++ visits_from m s (drop i run)
  pub reach : Reach front x marks

-- setting i visits two couples with such marks
pub reaching_more : {m : Machine} {s₀ : ℕ} {run : List ℕ} {x : ℕ} {marks : List ℕ} {s i w : ℕ} {r : Visited} → Reaching m s₀ run x marks s i → i < length run → w ≡ get_or run i 0 → Changed m s w r
    → x ≤ get_or marks r.entered 0 → x ≤ get_or marks r.moved 0 → Reaching m s₀ run x marks r.state (i + 1)
reaching_more {m} {run = run} {i = i} {r = r} k h e c a b = record {
  within = omega arith;
  state = c.state_below;
  front = k.front ++ (r.entered ∷ r.moved ∷ []);
  walked = k.walked ∙ ap (λ (cs : List ℕ). k.front ++ cs) (ahead run h e c) ∙ sym (append_assoc k.front (r.entered ∷ r.moved ∷ []) (visits_from m r.state (drop (i + 1) run)));
  reach = reach_both k.reach (record { each = λ d j. ⊎_elim (λ f. rw f a) (⊎_elim (λ f. rw f b) absurd) j });
}

-- the walk from the initial state visits what the run does
pub noted_run_lem : (m : Machine) (vs : List ℕ) (x : ℕ) (marks : List ℕ) → Run m vs → noted (visits_from m m.initial vs) x marks ≡ noted (visits m vs) x marks
noted_run_lem m [] x marks r = absurd r
noted_run_lem m (v ∷ vs) x marks r = rw r.0.rests (ap (λ (l : List ℕ). noted (visits_from m m.initial vs) x l) (set-set marks (couple m m.initial v) x x))

reach_run : (m : Machine) (x : ℕ) (marks vs : List ℕ) → Run m vs → Reach (visits_from m m.initial vs) x marks ↔ Reach (visits m vs) x marks
reach_run m x marks [] r = absurd r
reach_run m x marks (v ∷ vs) r = subst (λ t. Reach (couple m m.initial v ∷ couple m t v ∷ visits_from m t vs) x marks ↔ Reach (visits m (v ∷ vs)) x marks) (sym r.0.rests)
    (λ a. record { each = λ c i. a.each c (inr i) }, λ a. record { each = λ c i. ⊎_elim (λ e. a.each c (inl e)) (a.each c) i })

-- couples that have the mark x already are marked with it
noted_same : (cs ds : List ℕ) (x : ℕ) (marks : List ℕ) → ((c : ℕ) → In c cs → get_or marks c 0 ≡ x) → noted (cs ++ ds) x marks ≡ noted ds x marks
noted_same [] ds x marks all = refl
noted_same (c ∷ cs) ds x marks all =
    let e : set marks c x ≡ marks = ap (set marks c) (sym (all c (inl refl))) ∙ set-get_or marks c 0 in
    ap (noted (cs ++ ds) x) e ∙ noted_same cs ds x marks (λ d i. all d (inr i))

-- A run whose front has marks of at least `total` already, and whose rest, lent on, was asked for marks of at least `end`.
module _ {m : Machine} {run : List ℕ} {total : ℕ} {marks : List ℕ} (r : Run m run) {p : Place} (a : Stops m m.initial run total marks p) where
  abbrev rest : List ℕ
  rest = take (length run - p.settings) (drop p.settings run)

  walked : visits_from m m.initial run ≡ a.front ++ visits_from m p.state rest
  walked = rw rest_lent a.walked

  pub walk_rest : m.initial < m.states → Walkable m p.state rest
  walk_rest h = record { state = a.state; below = λ j l. rw (rest_lent, get_or-drop) (setting_below m run r (p.settings + j) (omega (arith, a.within, rw rest_lent at l, length-drop p.settings run))) }

  -- marking the rest marks the run
  pub mark_rest : Few total marks → noted (visits_from m p.state rest) total marks ≡ noted (visits m run) total marks
  mark_rest few =
      sym (noted_same a.front (visits_from m p.state rest) total marks (λ c i. let l = a.reach.each c i in let k = few.each c in omega arith))
      ∙ ap (λ (cs : List ℕ). noted cs total marks) (sym walked) ∙ noted_run_lem m run total marks r

  module _ {end : ℕ} (h : end ≤ total) where
    -- what the rest says of marks that reach the end, the run says
    as_rest : Reach (visits_from m p.state rest) end marks ↔ Reach (visits m run) end marks
    as_rest = (
      λ x. (reach_run m end marks run r).0 (subst (λ cs. Reach cs end marks) (sym walked) (reach_both {cs = a.front} (record { each = λ c i. let l = a.reach.each c i in omega arith }) x)),
      λ x. reach_back a.front (visits_from m p.state rest) (subst (λ cs. Reach cs end marks) walked ((reach_run m end marks run r).1 x)),
    )

    module _ {q : Place} (b : Stops m p.state rest end marks q) where
      pub rest_reaches : q.settings ≡ length rest → Reach (visits m run) end marks
      rest_reaches e = as_rest.0 (subst (λ cs. Reach cs end marks) (sym all) b.reach)
        where
          all : visits_from m p.state rest ≡ b.front
          all = b.walked ∙ ap (λ (l : List ℕ). b.front ++ visits_from m q.state l) (ap (λ (j : ℕ). drop j rest) e ∙ drop-length rest) ∙ append-nil b.front

      pub rest_fails : (q.settings ≡ length rest → ⊥) → Reach (visits m run) end marks → ⊥
      rest_fails n x =
          let l : q.settings < length rest = omega (arith, b.within) in
          b.stops l (reach_back b.front (visits_from m q.state (drop q.settings rest)) (subst (λ cs. Reach cs end marks) b.walked (as_rest.1 x)))
