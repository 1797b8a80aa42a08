-- `mark_parents` answers what the checks of sizes refuse, and otherwise lends on as many elements as there are couples.
use Rattle.std.proofs.lemmas.Result.{err_from_is_err_and}
use mathlib.Core.Path.{refl}
use Rattle.marking.proofs.Outcomes.{keeping, parented}
use Rattle.marking.proofs.mark_parents.Goals as goal

pub returns-in_err-sized : goal.returns-in_err-sized
returns-in_err-sized c =
    let p = err_from_is_err_and c.from_residual.result c.from_residual.ensures.1 in
    rw (p.1, p.2) (keeping c.in_err-sized.field-0.0 c.in_err-sized.ensures.verdict)

pub returns : goal.returns
returns c =
    let same = c.in_ok-sized.ensures.job in
    parented c.args.ranks.now c.args.weights.now c.args.parents.now c.in_ok-sized.ensures.verdict refl (rw same at c.couples-needed.ensures) (rw same at c.mark_exact.ensures)
