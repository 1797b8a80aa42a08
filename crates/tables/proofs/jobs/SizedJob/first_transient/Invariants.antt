use Rattle.std.proofs.Common.{ℕ, ◌<◌}
use Rattle.machine.specs.Moves.{table_moves, Transient}
use Rattle.machine.specs.Runs.{size}
use Rattle.tables.specs.Tables.{machine_in}
use Rattle.tables.proofs.jobs.SizedJob.first_transient.Given as goal

abbrev pub invariant-loop-p : goal.invariant-loop-p
invariant-loop-p l = (k : ℕ) → k < l.p → Transient (table_moves l.self.job.table.now (size (machine_in l.self.job))) l.self.job.frame.states (size (machine_in l.self.job)) k → ⊥
