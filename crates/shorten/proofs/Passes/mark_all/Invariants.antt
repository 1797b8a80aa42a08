use Rattle.std.proofs.Common.{length, ◌-◌}
use Rattle.shorten.proofs.Marking.{MarkingAll}
use Rattle.shorten.proofs.Passes.mark_all.Given as goal

abbrev pub invariant-loop-at : goal.invariant-loop-at
invariant-loop-at l = MarkingAll l.plan l.initial.self l.self l.at

abbrev pub decreases-loop-at : goal.decreases-loop-at
decreases-loop-at l = length l.plan - l.at
