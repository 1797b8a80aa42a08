-- `check_plan` finds nothing broken where the table is not fit, and otherwise the first broken byte.
use Rattle.std.specs.Prelude.{Some, None}
use Rattle.verdict.proofs.Order.{pass, halt, ends}
use Rattle.verdict.proofs.Tests.{within}
use Rattle.runs.proofs.stored.check_plan.Goals as goal

pub returns-in-Some : goal.returns-in-Some
returns-in-Some c = rw (← c.in-Ok.ensures.job) (halt (within _ (Some _) c.in-Ok.sized.tabled c.in-Some.ensures))

pub returns-in-None : goal.returns-in-None
returns-in-None c = rw (← c.in-Ok.ensures.job) (pass (within _ None c.in-Ok.sized.tabled c.in-None.ensures) ends)
