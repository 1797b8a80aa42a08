use Prim.Native.Nat.{◌+◌, ◌*◌, ◌-◌}
use Rattle.machine.specs.Runs.{couples}
use Rattle.tables.specs.Tables.{machine_in}
use Rattle.marking.specs.inner.Lent.{Lent, ProgressIn}
use Rattle.marking.proofs.rounds.fill.Given as goal

abbrev pub invariant-loop-queue : goal.invariant-loop-queue
invariant-loop-queue l = ProgressIn (machine_in l.sound.job) l.queue l.heads × Lent l.initial.queue l.queue

abbrev pub decreases-loop-queue : goal.decreases-loop-queue
decreases-loop-queue l = 2 * couples (machine_in l.sound.job) - (l.heads.single + l.heads.many)
