-- `multi_run_to` is told of one of the two jobs of a frame and a table.
use Rattle.plan.proofs.multi_run_to.Goals as goal

pub returns : goal.returns
returns c = let (_, frame, several, table) = c.multiple.ensures in rw (frame, several, table) at c.run_by.ensures
