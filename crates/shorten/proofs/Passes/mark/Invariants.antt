use Rattle.shorten.proofs.Walking.{Marking}
use Rattle.shorten.proofs.Passes.mark.Given as goal

abbrev pub invariant-loop-setting : goal.invariant-loop-setting
invariant-loop-setting l = Marking l.from l.run l.x l.initial.self l.self l.state l.setting-index
