-- `first_broken` goes from run to run: the bytes from byte `at` on are broken where the whole is.
use Rattle.std.proofs.Common.{arith}
use Rattle.runs.proofs.Broken.{past_more, past_found, past_end}
use Rattle.runs.proofs.stored.first_broken.Goals as goal

pub returns-in_default : goal.returns-in_default
returns-in_default c = past_found c.loop-at.invariant c.in_default.ensures

pub loop-at-preserved : goal.loop-at-preserved
loop-at-preserved c = (past_more c.loop-at.invariant c.in-Some.ensures).1

pub returns : goal.returns
returns c = past_end c.loop-at.invariant (omega arith)
