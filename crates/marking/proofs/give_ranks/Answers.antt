-- `give_ranks` fills a list: the first c elements are the ranks that the weights tell.
use native.Mathlib.Omega.{arith}
use Rattle.verdict.proofs.Fills.{filled_none, filled_more, filled_at}
use Rattle.marking.proofs.give_ranks.Goals as goal

pub loop-c-init : goal.loop-c-init
loop-c-init c = filled_none _

pub loop-c-preserved : goal.loop-c-preserved
loop-c-preserved c = filled_more c.loop-c.invariant (omega arith) c.rank_of.ensures

pub returns : goal.returns
returns c = filled_at c.loop-c.invariant (omega arith)
