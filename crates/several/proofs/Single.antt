-- For a couple that single changes mark, the run is that of document 01: runs of single changes are the runs without a multiple one.
use mathlib.Core.Path.{◌≡◌, refl, sym, ap, subst, ◌∙◌}
use mathlib.Core.Logic.{◌↔◌, ⊎_elim}
use mathlib.Core.List.{List, [], ◌∷◌}
use mathlib.Core.Bool.{Bool, true, false, ◌&&◌, and-false, and-eq-true_iff}
use Prim.Native.Nat.{ℕ, zero-le}
use native.Mathlib.Omega.{arith}
use lib.Dec.{eqb}
use borrow.Author.Tests.{eq-eqb, ne_eqb, lt-ltb}
use Rattle.machine.specs.Lists.{In}
use Rattle.machine.specs.Couples.{one_unless, differing}
use Rattle.machine.specs.Runs.{Machine, usable, startable, may_alter, machine_by, machine_of, couple, move, Sound, Changes, Goes, Run, visits_from, visits, Visitor, Marked}
use Rattle.machine.specs.Shortest.{rests_from, rests, RunTo}
use Rattle.machine.specs.declared.Frame.{Frame}
use Rattle.machine.proofs.Order.{equal_or}
use Rattle.machine.proofs.Exists.{run_to_exists}
use Rattle.several.specs.Several.{singly, multiple, multiples_from, multiples, MultiRunTo}
use Rattle.several.proofs.Runs.{multi_unique}

module _ (m : Machine) where
  visits_from_lem : (s : ℕ) (ws : List ℕ) → visits_from (singly m) s ws ≡ visits_from m s ws
  visits_from_lem s [] = refl
  visits_from_lem s (w ∷ ws) = ap (λ (cs : List ℕ). couple m s w ∷ couple m (move m s w) w ∷ cs) (visits_from_lem (move m s w) ws)

  -- single changes visit the same couples, and rest at the same ones
  pub visits_same : (vs : List ℕ) → visits (singly m) vs ≡ visits m vs
  visits_same [] = refl
  visits_same (v ∷ vs) = ap (λ (cs : List ℕ). couple m m.initial v ∷ cs) (visits_from_lem m.initial vs)

  rests_from_lem : (cs : List ℕ) (s v : ℕ) (ws : List ℕ) → rests_from (singly m) cs s v ws ≡ rests_from m cs s v ws
  rests_from_lem cs s v [] = refl
  rests_from_lem cs s v (w ∷ ws) = rests_from_lem (couple m s v ∷ cs) (move m s w) w ws

  pub rests_same : (vs : List ℕ) → rests (singly m) vs ≡ rests m vs
  rests_same [] = refl
  rests_same (v ∷ vs) = rests_from_lem [] m.initial v vs

  -- a single change is a change that is not multiple
  change_of : (v w : ℕ) → Changes (singly m) v w → Changes m v w × (multiple m v w ≡ 0)
  change_of v w x =
      let (y, e) = (and-eq-true_iff (m.may_change v w) _).0 x.allowed in
      (record { below = x.below; allowed = y }, rw e)

  of_change : (v w : ℕ) → Changes m v w → multiple m v w ≡ 0 → Changes (singly m) v w
  of_change v w x z = record { below = x.below; allowed = rw (x.allowed, single (eqb (differing m.inputs v w) 1) z) }
    where
      single : (b : Bool) → one_unless b ≡ 0 → b ≡ true
      single true e = refl
      single false e = absurd (omega arith)

  goes_of : (v : ℕ) (ws : List ℕ) → Goes (singly m) v ws → Goes m v ws × (multiples_from m v ws ≡ 0)
  goes_of v [] g = (tt, refl)
  goes_of v (w ∷ ws) g =
      let (x, e) = change_of v w g.0 in
      let (y, f) = goes_of w ws g.1 in
      ((x, y), omega arith)

  of_goes : (v : ℕ) (ws : List ℕ) → Goes m v ws → multiples_from m v ws ≡ 0 → Goes (singly m) v ws
  of_goes v [] g e = tt
  of_goes v (w ∷ ws) g e = (of_change v w g.0 (omega arith), of_goes w ws g.1 (omega arith))

  pub run_of_lem : (vs : List ℕ) → Run (singly m) vs → Run m vs × (multiples m vs ≡ 0)
  run_of_lem [] r = absurd r
  run_of_lem (v ∷ vs) r = let (g, e) = goes_of v vs r.1 in ((record { below = r.0.below; rests = r.0.rests; allowed = r.0.allowed }, g), e)

  of_run : (vs : List ℕ) → Run m vs → multiples m vs ≡ 0 → Run (singly m) vs
  of_run [] r e = absurd r
  of_run (v ∷ vs) r e = (record { below = r.0.below; rests = r.0.rests; allowed = r.0.allowed }, of_goes v vs r.1 e)

  pub visitor_of : {c : ℕ} {vs : List ℕ} → Visitor (singly m) c vs → Visitor m c vs
  visitor_of {c} {vs} x = record { run = (run_of_lem vs x.run).0; sees = subst (In c) (visits_same vs) x.sees }

  of_visitor : {c : ℕ} {vs : List ℕ} → Visitor m c vs → multiples m vs ≡ 0 → Visitor (singly m) c vs
  of_visitor {c} {vs} x e = record { run = of_run vs x.run e; sees = subst (In c) (sym (visits_same vs)) x.sees }

-- what a sound machine has, its single changes have
pub singly_sound : {m : Machine} → Sound m → Sound (singly m)
singly_sound ok = record { closed = ok.closed; calm = ok.calm; begins = ok.begins }

module _ {m : Machine} (ok : Sound m) where
  -- document 01's run is the run
  pub run_multi : {c : ℕ} {vs : List ℕ} → RunTo (singly m) c vs → MultiRunTo m c vs
  run_multi {c} {vs} x = record {
    visitor = visitor_of m x.visitor;
    fewest_multiples = λ ws y. rw none zero-le;
    fewest = λ ws y e. x.fewest ws (of_visitor m y (e ∙ none));
    least = λ ws y e f. rw (← rests_same m vs, ← rests_same m ws) (x.least ws (of_visitor m y (e ∙ none)) f);
  }
    where
      none : multiples m vs ≡ 0
      none = (run_of_lem m vs x.visitor.run).1

  -- and for a marked couple the run is document 01's
  pub multi_run : {c : ℕ} {vs : List ℕ} → Marked (singly m) c → MultiRunTo m c vs → RunTo (singly m) c vs
  multi_run {c} {vs} k x =
      let (ws, y) = run_to_exists (singly_sound ok) c k in
      subst (RunTo (singly m) c) (multi_unique ok c ws vs (run_multi y) x) y

  -- the run has no multiple change exactly if single changes mark the couple
  pub none_multiple : {c : ℕ} {vs : List ℕ} → MultiRunTo m c vs → (multiples m vs ≡ 0) ↔ Marked (singly m) c
  none_multiple {c} {vs} x = (λ e. (vs, of_visitor m x.visitor e), λ k. (run_of_lem m vs (multi_run k x).visitor.run).1)

-- document 01's machine has the single changes of both
pub singly_by : (several : Bool) (f : Frame) (table : List ℕ) → singly (machine_by several f table) ≡ machine_of f table
singly_by several f table = λ i. record {
  inputs = f.inputs;
  states = f.states;
  initial = f.initial;
  table = table;
  may_start = λ v. startable f v;
  may_change = λ v w. same several (usable f w) (differing f.inputs v w) i;
}
  where
    alter : (several : Bool) (d : ℕ) → d ≡ 1 → may_alter several d ≡ true
    alter true d e = lt-ltb 0 d (omega arith)
    alter false d e = eq-eqb d 1 e

    same : (several u : Bool) (d : ℕ) → (u && may_alter several d) && eqb d 1 ≡ u && eqb d 1
    same several false d = refl
    same several true d = ⊎_elim (λ e. rw (eq-eqb d 1 e, alter several d e) refl) (λ e. rw (ne_eqb d 1 e) (and-false (may_alter several d))) (equal_or d 1)
