-- Document 01's two starred rows on conditions, and document 02's `1`, of the definitions: the tree of each text is given, and what it
-- says computed.
use Rattle.std.specs.Prelude.{Ok}
use mathlib.Core.Path.{refl}
use mathlib.Core.Bool.{true, false}
use mathlib.Core.List.{[], ◌∷◌}
use Prim.Native.Char.{code}
use Prim.Native.Nat.{ℕ}
use native.Mathlib.Omega.{arith}
use Rattle.basics.specs.Texts.{letters}
use Rattle.condition.specs.Grammar.{one, more, bang, on, input, text, opened, Below, holds}
use Rattle.condition.specs.Condition.{Holds, Says}
use Rattle.condition.proofs.Says.{value_says}

-- `a+b.c` at setting 1 (only a on) holds
pub and_before_or : Says 3 1 (letters "a+b.c") (Ok true)
unfolding text opened Below holds
and_before_or =
    value_says (record { tree = more (one (input 0)) (one (more (input 1) (one (input 2)))); spelt = refl; nested = omega arith; known = omega arith }) refl

-- `!a.b` at setting 0 does not hold
pub not_before_and : Says 2 0 (letters "!a.b") (Ok false)
unfolding text opened Below holds
not_before_and =
    value_says (record { tree = one (more (bang (input 0)) (one (input 1))); spelt = refl; nested = omega arith; known = omega arith }) refl

-- `1` holds at every setting
pub one_holds : (n v : ℕ) → Holds n v (code "1" ∷ [])
unfolding text opened Below holds
one_holds n v = record { reads = record { tree = one (one on); spelt = refl; nested = omega arith; known = tt }; true_there = refl }
