-- Going through stored bytes from run to run.
use Rattle.std.specs.Prelude.{◌≡◌, List, ◌++◌, ℕ, ◌+◌, ◌≤◌, ◌<◌, length, get_or, drop, Option, Some, None}
use Rattle.machine.specs.Runs.{Machine, Run}
use Rattle.machine.specs.Plans.{stored_run}
use Rattle.runs.specs.Stored.{settings_at, Broken}

-- the run that is counted at byte p ends at byte e, within the bytes
pub record Whole (bytes : List ℕ) (p e : ℕ) : Type 0 where
  pub low_byte : get_or bytes p 0 < 256
  pub ends : e ≡ p + 2 + settings_at bytes p
  pub within : e ≤ length bytes

-- where it ends, or that the bytes end before
abbrev pub Counted : List ℕ → ℕ → Option ℕ → Type 0
Counted bytes p (Some e) = Whole bytes p e
Counted bytes p None = length bytes < p + 2 + settings_at bytes p

-- the settings vs are stored from byte p up to, not including, byte e
pub record StoredAt (bytes : List ℕ) (p : ℕ) (vs : List ℕ) (e : ℕ) : Type 0 where
  pub is : drop p bytes ≡ stored_run vs ++ drop e bytes
  pub ends : e ≡ p + length (stored_run vs)
  pub within : e ≤ length bytes

-- a run of the machine is stored from byte p up to, not including, byte e
pub record RunAt (m : Machine) (bytes : List ℕ) (p e : ℕ) : Type 0 where
  pub settings : List ℕ
  pub run : Run m settings
  pub stored : StoredAt bytes p settings e

-- where it ends, or that none is stored there
abbrev pub Next : Machine → List ℕ → ℕ → Option ℕ → Type 0
Next m bytes p (Some e) = RunAt m bytes p e
Next m bytes p None = Broken m (drop p bytes) 0
