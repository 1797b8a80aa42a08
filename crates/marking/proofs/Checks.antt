-- The checks of marking: refusals 2 and 3 as they are asked, the verdict on the table that goes on with a start, and arrays of
-- weights and parents for as many couples as a machine may have, which are never too short.
use mathlib.Core.Path.{◌≡◌, refl}
use mathlib.Core.List.{List, ◌++◌}
use Prim.Native.Nat.{ℕ}
use native.Mathlib.Omega.{arith}
use lib.ListN.{length}
use Rattle.verdict.specs.Checks.{Check, Nowhere, Unless, Short, refused, next, Passed, Judged, Verdict}
use Rattle.verdict.specs.declared.Answer.{Answer}
use Rattle.verdict.proofs.Order.{Passes}
use Rattle.machine.specs.Limits.{most_couples, Sized}
use Rattle.machine.specs.Runs.{Machine, size, couples}
use Rattle.machine.proofs.Sizes.{couples_few}
use Rattle.tables.proofs.Gate.{size_passed, move_passed}
use Rattle.tables.specs.Tables.{Checked}
use Rattle.marking.specs.Marking.{mark_checks, parent_checks, ParentedAs}

-- no check of marking fails, nor any of those behind
module _ (m : Machine) {ranks : ℕ} (ds : List Check) (p : Passes (mark_checks m ranks ++ ds)) where
  pub mark_checked : Checked m
  mark_checked = move_passed m (size_passed m (p.0, (p.1.0, tt))) (p.1.1.1.0, (p.1.1.1.1.0, tt))

-- nor any of marking with parents
pub parents_checked : (m : Machine) {ranks weights parents : ℕ} → Passes (parent_checks m ranks weights parents) → Checked m
parents_checked m p = move_passed m (size_passed m (p.0, (p.1.0, tt))) (p.1.1.1.1.1.0, (p.1.1.1.1.1.1.0, tt))

-- the checks of the weights and the parents, which do not fail
pub without_parents : {m : Machine} {R W P R₁ W₁ P₁ : List ℕ} {a : Answer} → length W ≡ most_couples → length P ≡ most_couples → ParentedAs m R W P a R₁ W₁ P₁ → Judged (mark_checks m (length R)) Passed a
without_parents {m} {R} {W} {P} {a = a} weights parents x = record { verdict = by x.verdict.verdict }
  where
    roomy_enough : {n p : ℕ} → n ≡ most_couples → Nowhere (Unless (Sized m.inputs m.states m.initial)) → Short (couples m) n p → ⊥
    roomy_enough lent size l = size.nowhere 0 (refl, λ z. let h = l.1 in omega (arith, couples_few z))

    by : Verdict (parent_checks m (length R) (length W) (length P)) Passed a → Verdict (mark_checks m (length R)) Passed a
    by (refused l e) = refused l e
    by (next size (refused l e)) = next size (refused l e)
    by (next size (next table (refused l e))) = next size (next table (refused l e))
    by (next size (next table (next room (refused l e)))) = absurd (roomy_enough weights size l.here)
    by (next size (next table (next room (next more (refused l e))))) = absurd (roomy_enough parents size l.here)
    by (next size (next table (next room (next more (next last v))))) = next size (next table (next room v))
