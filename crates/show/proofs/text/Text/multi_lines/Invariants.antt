use lib.ListN.{length}
use Rattle.several.specs.Lists.{list_in}
use Rattle.show.specs.Sheet.{multi_lines}
use Rattle.show.proofs.Steps.{Left}
use Rattle.show.proofs.text.Text.multi_lines.Given as goal

abbrev pub invariant-loop-rest : goal.invariant-loop-rest
invariant-loop-rest l = Left (multi_lines (list_in l.list)) (multi_lines (list_in l.rest)) l.initial.self l.self

abbrev pub decreases-loop-rest : goal.decreases-loop-rest
decreases-loop-rest l = length l.rest
