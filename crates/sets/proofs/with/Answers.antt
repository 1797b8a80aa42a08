-- `with` sets the setting's bit; beyond the bits there is nothing to set.
use Prim.Native.Nat.{◌*◌, ◌/◌, ◌%◌, ◌^◌}
use native.Mathlib.Nat.{mod-lt}
use native.Mathlib.Omega.{arith}
use lib.Dec.{lit<}
use Rattle.sets.proofs.Members.{member_set}
use Rattle.sets.proofs.Arrays.{array_words, words_set}
use Rattle.sets.proofs.with.Goals as goal

pub returns-then-setting-clause-array : goal.returns-then-setting-clause-array
returns-then-setting-clause-array c = let u = c.args.setting in words_set (array_words c.well_formed.0) (u / 64) (1 * 2 ^ (u % 64) % 2 ^ 64) (omega (arith, c.if-setting.true)) (mod-lt _ (lit< tt))

pub returns-then-setting-clause-members : goal.returns-then-setting-clause-members
returns-then-setting-clause-members c = λ v h. member_set c.args.set c.args.setting (omega (arith, c.if-setting.true, (array_words c.well_formed.0).count)) v
