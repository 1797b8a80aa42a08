-- `flip` is an exclusive or with the input's weight, which a word holds.
use native.Mathlib.Omega.{arith}
use native.Mathlib.Nat.{le_of_lt}
use mathlib.Core.Path.{◌≡◌}
use Prim.Native.Nat.{◌*◌, ◌%◌, ◌^◌}
use Rattle.machine.proofs.Couples.{settings_bound}
use Rattle.marking.proofs.Expanding.{flip_xor}
use Rattle.marking.proofs.changes.flip.Goals as goal

pub returns : goal.returns
returns c =
    let e : 1 * 2 ^ c.args.i % 2 ^ 64 ≡ 2 ^ c.args.i = omega (arith, settings_bound {n = c.args.i} (le_of_lt c.requires.0)) in
    rw e (flip_xor c.args.setting c.args.i)
