-- `check_states` passes or halts at each check in turn.
use Rattle.verdict.proofs.Order.{pass, halt, ends}
use Rattle.verdict.proofs.Tests.{whole, meets}
use Rattle.tables.proofs.jobs.SoundJob.check_states.Goals as goal

pub returns-then-not-started : goal.returns-then-not-started
returns-then-not-started c = pass c.in_default.ensures (pass c.in_default-first_unreached.ensures (halt (whole (rw c.sized.ensures at (c.started.ensures.fails c.if-not-started.true)))))

pub returns : goal.returns
returns c = pass c.in_default.ensures (pass c.in_default-first_unreached.ensures (pass (meets (rw c.sized.ensures at (c.started.ensures.holds c.if-not-started.false))) ends))
