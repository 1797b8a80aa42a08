-- The invariant of `holding::set_of`: the settings below v have been asked.
use Rattle.sets.specs.Sets.{words, SetOf}
use Rattle.condition.specs.Condition.{Holds}
use Rattle.holding.proofs.set_of.Given as goal

abbrev pub invariant-loop-v : goal.invariant-loop-v
invariant-loop-v l = SetOf words l.v (λ u. Holds l.inputs u l.text) l.set
