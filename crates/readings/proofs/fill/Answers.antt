-- `fill` writes the readings of a run: what is written so far, with the readings of the settings that are left, is all of them.
use Rattle.std.proofs.Common.{arith}
use Rattle.readings.proofs.Writing.{write_end}
use Rattle.readings.proofs.fill.Goals as goal

pub returns : goal.returns
returns c = write_end c.loop-i.invariant (omega arith) (omega (arith, c.requires.some)) c.requires.fits
