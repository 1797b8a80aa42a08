-- The checks of a lent table (document 01, "Refusals by number"). Assumes nothing: these are definitions.
use Rattle.std.specs.Prelude.{List, [], ◌∷◌, ◌++◌, ℕ, ◌≤◌, length, get_or}
use Rattle.verdict.specs.Checks.{Check, check, Unless, Short}
use Rattle.machine.specs.Limits.{Sized}
use Rattle.machine.specs.Moves.{table_moves, Stateless, Transient, SameWord, Unreached}
use Rattle.machine.specs.Runs.{Machine, machine_by, size, couples, Sound, Starts}
use Rattle.tables.specs.declared.Job.{Job}

-- the machine of what a table job is handed
abbrev pub machine_in : Job → Machine
machine_in job = machine_by job.several job.frame job.table.now

-- refusals 2 and 3 do not apply: the sizes are in their ranges, and the table has an element for each couple
pub record Tabled (m : Machine) : Type 0 where
  pub sized : Sized m.inputs m.states m.initial
  pub long : couples m ≤ length m.table

-- refusals 2, 3, 4 and 10 do not apply
pub record Checked (m : Machine) : Type 0 where
  pub tabled : Tabled m
  pub sound : Sound m

-- refusals 2 and 3 of a table
abbrev pub size_checks : Machine → List Check
size_checks m =
    check 2 (Unless (Sized m.inputs m.states m.initial))
    ∷ check 3 (Short (couples m) (length m.table))
    ∷ []

-- 4 and 10, at so many states and settings
abbrev pub moves_at : List ℕ → ℕ → ℕ → List Check
moves_at table states settings =
    check 4 (Stateless table states settings)
    ∷ check 10 (Transient (table_moves table settings) states settings)
    ∷ []

abbrev pub move_checks : Machine → List Check
move_checks m = moves_at m.table m.states (size m)

-- 13
abbrev pub start_checks : Machine → List Check
start_checks m = check 13 (Unless ((v : ℕ) × Starts m v)) ∷ []

-- the checks of a table: 2, 3, 4, 10
abbrev pub table_checks : Machine → List Check
table_checks m = size_checks m ++ move_checks m

-- of the output words and states: 11, 12, 13
abbrev pub state_checks : Machine → List ℕ → List Check
state_checks m words =
    check 11 (SameWord (λ s. get_or words s 0) m.states)
    ∷ check 12 (Unreached (table_moves m.table (size m)) m.states (size m) m.initial)
    ∷ start_checks m

-- the checks of a table and the output words of its states: 2, 3, 4, 10, 11, 12, 13
abbrev pub sound_checks : Machine → List ℕ → List Check
sound_checks m words = size_checks m ++ check 3 (Short m.states (length words)) ∷ move_checks m ++ state_checks m words
