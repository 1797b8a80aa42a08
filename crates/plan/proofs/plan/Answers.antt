-- `plan` is told of one of the two jobs of a frame and a table.
use Rattle.plan.proofs.plan.Goals as goal

pub returns : goal.returns
returns c = let (_, frame, several, table) = c.single.ensures in rw (frame, several, table) at c.plan_by.ensures
