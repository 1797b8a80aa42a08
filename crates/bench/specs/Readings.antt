-- Readings, the outputs in which their words differ, and how often each did (document 02). Assumes nothing: these are definitions.
use Rattle.std.specs.Prelude.{ℕ, ◌/◌, ◌%◌, ◌^◌, Bool, cond, not, List, filter, eqb, length}
use Rattle.bench.specs.declared.Reading.{Reading}

-- a reading compares an expected and a seen word
abbrev pub differs : Reading → Bool
differs r = not (eqb r.expected r.seen)

-- output j of a word has weight 2 to the power j
abbrev pub output_of : ℕ → ℕ → ℕ
output_of word j = word / 2 ^ j % 2

-- the two words differ in output j
abbrev pub differs_in : ℕ → Reading → Bool
differs_in j r = not (eqb (output_of r.expected j) (output_of r.seen j))

-- those of the readings of which it holds
abbrev pub those : (Reading → Bool) → List Reading → List Reading
those p rs = filter p rs

-- in how many of these readings output j differed
abbrev pub times : List Reading → ℕ → ℕ
times rs j = length (those (differs_in j) rs)

-- one more where it holds
abbrev pub one_if : Bool → ℕ
one_if b = cond b 1 0
