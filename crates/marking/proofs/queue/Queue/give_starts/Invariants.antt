use Rattle.tables.specs.Tables.{machine_in}
use Rattle.marking.specs.inner.Engine.{ByStarts}
use Rattle.marking.specs.inner.Lent.{Lent, PushedIn}
use Rattle.marking.proofs.queue.Queue.give_starts.Given as goal

abbrev pub invariant-loop-v : goal.invariant-loop-v
invariant-loop-v l = PushedIn (ByStarts (machine_in l.sized.job) l.v) 0 0 l.initial.self l.self × Lent l.initial.self l.self
