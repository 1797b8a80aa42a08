-- Settings and couples (document 01, "The ground"). Assumes nothing: these are definitions.
use Rattle.std.specs.Prelude.{◌≡◌, Bool, true, false, ℕ, zero, suc, ◌+◌, ◌*◌, ◌/◌, ◌%◌, ◌^◌, ◌<◌, eqb}

-- input i of the setting v, 0 or 1: input a weighs 1, b 2, and so on
abbrev pub input : ℕ → ℕ → ℕ
input v i = v / 2 ^ i % 2

abbrev pub one_unless : Bool → ℕ
one_unless true = 0
one_unless false = 1

-- at how many of the first n inputs two settings differ
unfoldable pub differing : ℕ → ℕ → ℕ → ℕ
differing zero v w = 0
differing (suc n) v w = differing n v w + one_unless (eqb (input v n) (input w n))

-- the number of the couple (s, v), at so many settings
abbrev pub couple_at : ℕ → ℕ → ℕ → ℕ
couple_at settings s v = s * settings + v

-- p is the number of the couple (s, v)
pub record Couple (states settings s v p : ℕ) : Type 0 where
  pub state : s < states
  pub setting : v < settings
  pub number : p ≡ couple_at settings s v
