-- Sets of settings: an array of words, one bit a setting. Assumes nothing: these are definitions.
use Rattle.std.specs.Prelude.{◌≡◌, List, Bool, false, ℕ, ◌*◌, ◌/◌, ◌%◌, ◌^◌, ◌≤◌, ◌<◌, length, get_or, eqb}
use Rattle.verdict.specs.Checks.{Decides}

-- four words, and as many settings as they have bits
abbrev pub words : ℕ
words = 4

abbrev pub most_members : ℕ
most_members = 64 * words

-- setting v is a member if bit v % 64 of word v / 64 is 1
abbrev pub member : List ℕ → ℕ → Bool
member set v = eqb (get_or set (v / 64) 0 / 2 ^ (v % 64) % 2) 1

-- an array of n words
pub record Words (n : ℕ) (set : List ℕ) : Type 0 where
  pub count : length set ≡ n
  pub small : (i : ℕ) → i < n → get_or set i 0 < 2 ^ 64

-- the set, in n words, of what holds of each of so many settings; no other is a member
pub record SetOf (n settings : ℕ) (P : ℕ → Type 0) (set : List ℕ) : Type 0 where
  pub array : Words n set
  pub each : (v : ℕ) → v < settings → Decides (P v) (member set v)
  pub beyond : (v : ℕ) → settings ≤ v → member set v ≡ false
