-- A setting with one input flipped.
use Rattle.std.specs.Prelude.{ℕ, ◌+◌, ◌-◌, ◌/◌, ◌%◌, eqb, cond}

-- v with the input that weighs p flipped
unfoldable pub flipped : ℕ → ℕ → ℕ
flipped v p = cond (eqb (v / p % 2) 0) (v + p) (v - p)
