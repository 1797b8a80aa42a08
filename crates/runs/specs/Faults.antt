-- Whether a list of settings is a run (document 01, "Refusals by number"). Assumes nothing: these are definitions.
use Rattle.std.specs.Prelude.{List, [], ◌∷◌, ℕ}
use Rattle.verdict.specs.Checks.{Check, check, Within}
use Rattle.machine.specs.Runs.{Machine, Fault}
use Rattle.tables.specs.Tables.{Tabled}

-- refusal 17, not a run, once 2 and 3 do not apply to the table: with another table a list of settings has no fault
abbrev pub fault_checks : Machine → List ℕ → List Check
fault_checks m run = check 17 (Within (Tabled m) (Fault m run)) ∷ []
