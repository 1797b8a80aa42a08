-- Sizes (document 01, "The ground"). Assumes nothing: these are definitions.
use Rattle.std.specs.Prelude.{ℕ, ◌*◌, ◌^◌, ◌≤◌, ◌<◌}

-- 1 to 8 inputs
abbrev pub most_inputs : ℕ
most_inputs = 8

-- 1 to 32 states
abbrev pub most_states : ℕ
most_states = 32

-- so many settings and couples at most
abbrev pub most_settings : ℕ
most_settings = 2 ^ most_inputs

abbrev pub most_couples : ℕ
most_couples = most_states * most_settings

-- refusal 2 does not apply: each size is in its range, and the initial state is below S
pub record Sized (inputs states initial : ℕ) : Type 0 where
  pub some_input : 1 ≤ inputs
  pub few_inputs : inputs ≤ most_inputs
  pub few_states : states ≤ most_states
  pub begins : initial < states

-- what stands in place of a rank for a couple that is not marked
abbrev pub unmarked : ℕ
unmarked = 65535
