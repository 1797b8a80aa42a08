-- `next_start` finds where the run ends that is counted at the byte, and then no fault in its settings.
use Rattle.runs.proofs.Broken.{next_none, next_fault, next_run}
use Rattle.runs.proofs.stored.next_start.Goals as goal

pub returns-in_err-end : goal.returns-in_err-end
returns-in_err-end c = rw c.from_residual.ensures (next_none _ c.args.plan.now c.requires c.in_err-end.ensures)

pub returns-in-Some : goal.returns-in-Some
returns-in-Some c = next_fault _ c.in_ok-end.ensures c.in-Some.ensures.here

pub returns-in-None : goal.returns-in-None
returns-in-None c = next_run _ c.in_ok-end.ensures c.in-None.ensures
