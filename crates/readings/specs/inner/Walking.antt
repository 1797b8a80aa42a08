-- What filling the readings relies on.
use Rattle.std.specs.Prelude.{List, ℕ, ◌≤◌, ◌<◌, length, get_or}
use Rattle.machine.specs.Runs.{Machine, size}
use Rattle.readings.specs.Expected.{readings_needed}

-- refusals 3 and 17 do not apply: words for the states, a run's settings, each below the size, and room for the readings
pub record Walkable (m : Machine) (words : ℕ) (run : List ℕ) (room : ℕ) : Type 0 where
  pub worded : m.states ≤ words
  pub some : 0 < length run
  pub below : (i : ℕ) → i < length run → get_or run i 0 < size m
  pub fits : readings_needed run ≤ room
