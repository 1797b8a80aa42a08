use Rattle.tables.specs.Tables.{machine_in}
use Rattle.marking.specs.inner.Engine.{Going}
use Rattle.marking.specs.inner.Lent.{Lent}
use Rattle.marking.proofs.queue.Queue.spread.Given as goal

abbrev pub invariant-loop-head : goal.invariant-loop-head
invariant-loop-head l =
    Going (machine_in l.sound.job) l.changes l.weight l.from l.to l.initial.self.weights.now l.initial.self.parents.now l.initial.self.couples.now l.initial.self.tail l.self.weights.now l.self.parents.now l.self.couples.now l.head l.self.tail × Lent l.initial.self l.self
