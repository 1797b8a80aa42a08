-- Passing the checks of expected readings gives the work after them a run of the table, and makes the verdict of the whole; refused by 2 or 3,
-- they write nothing.
use mathlib.Core.Path.{◌≡◌, refl}
use mathlib.Core.Bool.{Bool}
use mathlib.Core.List.{List, [], ◌∷◌, ◌++◌}
use Prim.Native.Nat.{ℕ}
use lib.ListN.{length}
use Rattle.verdict.specs.Checks.{check, Passed, Judged}
use Rattle.verdict.specs.declared.Answer.{Answer}
use Rattle.verdict.proofs.Order.{Passes, judged_on, judged_stop, judged_passes, judged_within, roomy}
use Rattle.verdict.proofs.Fills.{written_nothing}
use Rattle.machine.specs.Runs.{Machine, machine_by, Fault, Run}
use Rattle.machine.specs.declared.Frame.{Frame}
use Rattle.machine.proofs.Stored.{setting_below, run_some}
use Rattle.machine.proofs.Faults.{run_faultless}
use Rattle.tables.specs.Tables.{Tabled, move_checks}
use Rattle.runs.specs.Faults.{fault_checks}
use Rattle.readings.specs.Expected.{readings_needed, shape_checks, expected_checks, ExpectedDone, ExpectedAs}
use Rattle.readings.specs.inner.Walking.{Walkable}

-- the answer of a check that passed
abbrev nothing : Answer
nothing = record { number = 0; place = 0 }

module _ {m : Machine} {words : ℕ} {run : List ℕ} {room : ℕ} (k : Tabled m) (v : Judged (shape_checks m words run room) Passed nothing) (u : Judged (fault_checks m run) Passed nothing) where
  is_run : Run m run
  is_run = (run_faultless m run).1 (judged_passes 17 (judged_within k u) refl refl).0.nowhere

  pub walkable : Walkable m words run room
  walkable =
      let shape : Passes (shape_checks m words run room) = judged_passes 3 v refl refl in
      record { worded = roomy shape.1.1.0; some = run_some m run is_run; below = setting_below m run is_run; fits = roomy shape.1.1.1.0 }

  pub done : {n : ℕ} → Judged (move_checks m) Passed nothing → n ≡ readings_needed run → Judged (expected_checks m words run room) (ExpectedDone run) (record { number = 0; place = n })
  done w e =
      judged_on 3 v refl refl (judged_on 10 w refl refl (judged_on 17 (judged_within k u) refl refl (record { verdict = record { number = refl; place = e } })))

module _ (several : Bool) (f : Frame) (table words run readings₀ : List ℕ) where
  abbrev machine : Machine
  machine = machine_by several f table

  pub no_shape : {a : Answer} → Judged (shape_checks machine (length words) run (length readings₀)) Passed a → (a.number ≡ 0 → ⊥) → ExpectedAs machine words run readings₀ a readings₀
  no_shape v n = record { verdict = judged_stop [] (judged_stop (move_checks machine ++ check 17 (Fault machine run) ∷ []) v n) n; readings = written_nothing n }
