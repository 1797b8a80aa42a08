-- A record as the machine has it: what a walk needs to store one, to take one out of a slice, and to make a zero one.
use mathlib.Core.Path.{refl}
use Prim.Native.Nat.{ℕ, ◌*◌, ◌<◌, ◌^◌}
use native.Mathlib.Omega.{arith}
use mathlib.Core.List.{List}
use lib.Dec.{lit<}
use mir.Val.{Val}
use denote.RattleType.{RattleType}
use denote.Laws.{Is}
use denote.Struct.Laws as LL
use Rattle.evolutions.specs.Evolutions.{blank}
use Rattle.evolutions.specs.declared.Evolution.{Evolution}
use Rattle.evolutions.specs.contracts.Evolution as T
use Rattle.evolutions.proofs.Evolution.TheLaws as T'

abbrev pub R : RattleType
R = T.the_row

abbrev pub vals : Evolution → List Val
vals = LL.vals T.the_type T'.the_laws

abbrev pub val : Evolution → Val
val = LL.val T.the_type T'.the_laws

pub blank_is : Is R blank (vals blank)
blank_is = LL.owes T.the_type T'.the_laws blank ((refl, lit< tt), ((refl, lit< tt), ((refl, lit< tt), ((refl, lit< tt), tt))))

-- the place of an element is a usize
pub place_fits : (n i : ℕ) → n * 6 < 2 ^ 63 → i < n → i * 6 < 2 ^ 64
place_fits n i g l = omega arith
