-- The promises of this crate leave one answer, of any machine: a list of checks has one verdict; the others are equations.
use mathlib.Core.Path.{◌≡◌}
use mathlib.Core.List.{List}
use Prim.Native.Nat.{ℕ}
use Rattle.verdict.specs.Checks.{Passed, Judged}
use Rattle.verdict.specs.declared.Answer.{Answer}
use Rattle.verdict.proofs.Order.{judged_unique}
use Rattle.machine.specs.Runs.{Machine}
use Rattle.runs.specs.Faults.{fault_checks}
use Rattle.runs.specs.Stored.{broken_checks}

pub check_run_only : (m : Machine) (run : List ℕ) {a b : Answer} → Judged (fault_checks m run) Passed a → Judged (fault_checks m run) Passed b → a ≡ b
check_run_only m run v w = judged_unique v w

pub check_plan_only : (m : Machine) (plan : List ℕ) {a b : Answer} → Judged (broken_checks m plan) Passed a → Judged (broken_checks m plan) Passed b → a ≡ b
check_plan_only m plan v w = judged_unique v w
