use Rattle.tables.specs.Tables.{machine_in}
use Rattle.marking.specs.inner.Engine.{ByFirst}
use Rattle.marking.specs.inner.Lent.{Lent, PushedIn}
use Rattle.marking.proofs.queue.Queue.expand.Given as goal

abbrev pub invariant-loop-i : goal.invariant-loop-i
invariant-loop-i l = PushedIn (ByFirst l.changes (machine_in l.sound.job) l.couple l.i) l.weight l.couple l.initial.self l.self × Lent l.initial.self l.self
