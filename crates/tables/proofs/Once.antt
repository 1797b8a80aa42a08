-- Each promise of this crate leaves one answer: a test has one, and a list of checks has one verdict.
use mathlib.Core.Path.{◌≡◌}
use mathlib.Core.Bool.{Bool}
use mathlib.Core.List.{List}
use Prim.Native.Nat.{ℕ}
use Rattle.verdict.specs.Checks.{Decides, Passed, Judged}
use Rattle.verdict.specs.declared.Answer.{Answer}
use Rattle.verdict.proofs.Order.{judged_unique}
use Rattle.verdict.proofs.Tests.{decides_unique}
use Rattle.machine.specs.Runs.{Machine, Starts}
use Rattle.tables.specs.Tables.{Tabled, size_checks, table_checks, sound_checks}

module _ (m : Machine) where
  pub tabled_only : (r s : Bool) → Decides (Tabled m) r → Decides (Tabled m) s → r ≡ s
  tabled_only r s = decides_unique _ r s

  pub is_start_only : (v : ℕ) (r s : Bool) → Decides (Tabled m × Starts m v) r → Decides (Tabled m × Starts m v) s → r ≡ s
  is_start_only v r s = decides_unique _ r s

  pub started_only : (r s : Bool) → Decides (Tabled m × ((v : ℕ) × Starts m v)) r → Decides (Tabled m × ((v : ℕ) × Starts m v)) s → r ≡ s
  started_only r s = decides_unique _ r s

  -- the same of a job whose sizes passed, which is what marking and the search for faults ask
  pub sized_is_start_only : (v : ℕ) (r s : Bool) → Decides (Starts m v) r → Decides (Starts m v) s → r ≡ s
  sized_is_start_only v r s = decides_unique _ r s

  pub sized_started_only : (r s : Bool) → Decides ((v : ℕ) × Starts m v) r → Decides ((v : ℕ) × Starts m v) s → r ≡ s
  sized_started_only r s = decides_unique _ r s

  pub check_sizes_only : {a b : Answer} → Judged (size_checks m) Passed a → Judged (size_checks m) Passed b → a ≡ b
  check_sizes_only v w = judged_unique v w

  pub check_table_only : {a b : Answer} → Judged (table_checks m) Passed a → Judged (table_checks m) Passed b → a ≡ b
  check_table_only v w = judged_unique v w

  pub check_sound_only : (words : List ℕ) {a b : Answer} → Judged (sound_checks m words) Passed a → Judged (sound_checks m words) Passed b → a ≡ b
  check_sound_only words v w = judged_unique v w
