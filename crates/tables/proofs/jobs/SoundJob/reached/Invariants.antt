use Rattle.std.proofs.Common.{◌+◌, ◌*◌, ◌-◌, ◌≤◌}
use Rattle.machine.specs.Runs.{size}
use Rattle.tables.specs.Tables.{machine_in}
use Rattle.tables.proofs.Closure.{Scanned, unseen}
use Rattle.tables.proofs.jobs.SoundJob.reached.Given as goal

abbrev pub invariant-loop-p : goal.invariant-loop-p
invariant-loop-p l = (l.p ≤ l.total) × Scanned l.self.job.table.now (size (machine_in l.self.job)) l.self.job.frame.initial l.seen l.p

abbrev pub decreases-loop-p : goal.decreases-loop-p
decreases-loop-p l = unseen l.seen * (l.total + 1) + (l.total - l.p)
