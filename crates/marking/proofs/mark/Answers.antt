-- `mark` is `mark_parents` of single changes, whose arrays of weights and parents are never too short.
use mathlib.Core.Path.{refl}
use Rattle.marking.proofs.Outcomes.{marked_single}
use Rattle.marking.proofs.mark.Goals as goal

pub returns : goal.returns
returns c = marked_single c.args.frame c.args.table.now refl refl (rw c.single.ensures.0 at c.mark_parents.ensures)
