use Rattle.std.proofs.Common.{length, ◌-◌}
use Rattle.shorten.proofs.Keeping.{Keeping}
use Rattle.shorten.proofs.Passes.keep.Given as goal

abbrev pub invariant-loop-at : goal.invariant-loop-at
invariant-loop-at l = Keeping l.initial.self l.initial.plan l.self l.plan l.at l.to

abbrev pub decreases-loop-at : goal.decreases-loop-at
decreases-loop-at l = length l.initial.plan - l.at
