-- What the searches of a table rely on.
use Rattle.std.specs.Prelude.{List, ℕ, ◌*◌, ◌≤◌, ◌<◌, length, get_or}
use Rattle.machine.specs.Limits.{most_states, most_settings}

-- at most as many states and settings as a machine may have
pub record Small (states settings : ℕ) : Type 0 where
  pub few_states : states ≤ most_states
  pub few_settings : settings ≤ most_settings

-- such a table with a state for each couple, and an initial state
pub record Fit (table : List ℕ) (states settings initial : ℕ) : Type 0 where
  pub small : Small states settings
  pub begins : initial < states
  pub long : states * settings ≤ length table
  pub inside : (p : ℕ) → p < states * settings → get_or table p 0 < states
