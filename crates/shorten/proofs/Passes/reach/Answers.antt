-- `reach` walks over the settings while the couples in front have marks of at least x.
use Rattle.std.proofs.Common.{arith}
use Rattle.shorten.proofs.Walking.{reaching_more}
use Rattle.shorten.proofs.Passes.reach.Goals as goal

pub loop-settings-preserved : goal.loop-settings-preserved
loop-settings-preserved c = reaching_more c.loop-settings.invariant (omega arith) c.from.ensures c.change-visited.ensures (omega arith) (omega arith)
