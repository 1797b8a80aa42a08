-- No run visits a couple of a setting that is ruled out: the start is not ruled out, nor is any setting that a change enters, and each
-- couple that is visited is of one of these. By induction on the run; so no such couple is marked, has a rank or is visited by a plan.
use mathlib.Core.Path.{◌≡◌, sym, ◌∙◌}
use mathlib.Core.Logic.{⊎_elim}
use mathlib.Core.List.{List, [], ◌∷◌}
use mathlib.Core.Bool.{true, and-eq-true_iff}
use Prim.Native.Nat.{ℕ, ◌%◌, ◌<◌}
use Rattle.verdict.proofs.Tests.{true≢false}
use Rattle.sets.specs.Sets.{member}
use Rattle.machine.specs.Lists.{In}
use Rattle.machine.specs.Runs.{Machine, usable, machine_of, RuledOut, size, couple, move, Goes, Run, visits_from, visits, Marked, Rank}
use Rattle.machine.specs.Plans.{VisitedBy, Plan}
use Rattle.machine.specs.declared.Frame.{Frame}
use Rattle.machine.proofs.Couples.{couple_setting}
use Rattle.machine.proofs.Plans.{plan_marked}

module _ (f : Frame) (T : List ℕ) where
  abbrev m : Machine
  m = machine_of f T

  of_setting : (s : ℕ) {v c : ℕ} → v < size m → usable f v ≡ true → c ≡ couple m s v → usable f (c % size m) ≡ true
  of_setting s h u e = rw (e, couple_setting m s h) u

  usable_from : (s v : ℕ) (ws : List ℕ) → Goes m v ws → (c : ℕ) → In c (visits_from m s ws) → usable f (c % size m) ≡ true
  usable_from s v [] g c i = absurd i
  usable_from s v (w ∷ ws) g c i =
      let h = g.0.below in
      let u = ((and-eq-true_iff (usable f w) _).0 g.0.allowed).0 in
      ⊎_elim (of_setting s h u) (⊎_elim (of_setting (move m s w) h u) (usable_from (move m s w) w ws g.1 c)) i

  -- each couple that a run visits is of a setting that is not ruled out
  pub visits_usable : (vs : List ℕ) → Run m vs → (c : ℕ) → In c (visits m vs) → usable f (c % size m) ≡ true
  visits_usable [] r c i = absurd i
  visits_usable (v ∷ vs) r c i = ⊎_elim (of_setting m.initial r.0.below ((and-eq-true_iff (member f.starts v) _).0 r.0.allowed).1) (usable_from m.initial v vs r.1 c) i

  module _ (c : ℕ) (out : RuledOut f c) where
    pub ruled_unmarked : Marked m c → ⊥
    ruled_unmarked (vs, x) = true≢false (sym (visits_usable vs x.run c x.sees) ∙ out)

    pub ruled_unranked : (r : ℕ) → Rank m c r → ⊥
    ruled_unranked r x = ruled_unmarked (x.some, x.visitor)

    pub ruled_unplanned : {t : ℕ} {plan : List (List ℕ)} → Plan m t plan → VisitedBy m c plan → ⊥
    ruled_unplanned x y = ruled_unmarked (plan_marked x c y)
