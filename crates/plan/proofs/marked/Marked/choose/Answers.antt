-- The invariant: the first c couples had their turns.
use Rattle.plan.proofs.Turns.{chosen_none, chosen_more}
use Rattle.plan.proofs.marked.Marked.choose.Goals as goal

pub loop-c-init : goal.loop-c-init
loop-c-init c = chosen_none

pub loop-c-preserved : goal.loop-c-preserved
loop-c-preserved c = chosen_more c.loop-c.invariant c.choose_one-bytes.ensures
