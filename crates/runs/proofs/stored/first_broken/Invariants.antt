use Rattle.std.proofs.Common.{length, ◌-◌}
use Rattle.tables.specs.Tables.{machine_in}
use Rattle.runs.proofs.Broken.{Past}
use Rattle.runs.proofs.stored.first_broken.Given as goal

abbrev pub invariant-loop-at : goal.invariant-loop-at
invariant-loop-at l = Past (machine_in l.sized.job) l.plan l.at

abbrev pub decreases-loop-at : goal.decreases-loop-at
decreases-loop-at l = length l.plan - l.at
