-- Runs in a stored plan (document 01, "Runs and ranks"): the number of settings in two bytes, low byte first, then one byte a setting;
-- and whether bytes are such runs (document 02, ticket 3). Assumes nothing: these are definitions.
use Rattle.std.specs.Prelude.{◌≡◌, List, [], ◌∷◌, ◌++◌, ℕ, ◌+◌, ◌*◌, ◌<◌, min, length, get_or, take, drop}
use Rattle.verdict.specs.Checks.{Check, check, Within}
use Rattle.machine.specs.Lists.{In}
use Rattle.machine.specs.Runs.{Machine, Run, Fault}
use Rattle.machine.specs.Plans.{stored_run, stored, runs_in}
use Rattle.tables.specs.Tables.{Tabled}

-- the number of settings of the run that begins at a byte; a byte beyond the plan counts as 0
abbrev pub settings_at : List ℕ → ℕ → ℕ
settings_at plan at = get_or plan (at + 1) 0 * 256 + get_or plan at 0

-- where that run ends, at the latest with the plan
abbrev pub stored_end : List ℕ → ℕ → ℕ
stored_end plan at = min (at + 2 + settings_at plan at) (length plan)

-- the bytes are runs of the machine, stored end to end
pub record StoredRuns (m : Machine) (bytes : List ℕ) : Type 0 where
  pub runs : (vs : List ℕ) → In vs (runs_in bytes) → Run m vs
  pub splits : stored (runs_in bytes) ≡ bytes

-- Byte p is broken: the bytes before it split into stored runs, one should start there, and whatever settings are stored there, 17 would
-- refuse them. Where the bytes do not split there are none.
pub record Broken (m : Machine) (bytes : List ℕ) (p : ℕ) : Type 0 where
  pub inside : p < length bytes
  pub before : List (List ℕ)
  pub splits : take p bytes ≡ stored before
  pub refused : (vs after : List ℕ) → drop p bytes ≡ stored_run vs ++ after → (i : ℕ) × Fault m vs i

-- refusal 19, once 2 and 3 do not apply to the table
abbrev pub broken_checks : Machine → List ℕ → List Check
broken_checks m bytes = check 19 (Within (Tabled m) (Broken m bytes)) ∷ []
