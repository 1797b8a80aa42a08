-- What marking left is that of the machine, by which the plan or list ends.
use Rattle.std.proofs.lemmas.Result.{err_from_is_err_and}
use mathlib.Core.Path.{refl}
use Rattle.plan.proofs.Ready.{ready, room}
use Rattle.plan.proofs.Outcomes.{plan_refused, plan_ends}
use Rattle.plan.proofs.plan_by.Goals as goal

pub returns-in_err-mark_parents : goal.returns-in_err-mark_parents
returns-in_err-mark_parents c =
    let job = c.args.job in
    let p = err_from_is_err_and c.from_residual.result c.from_residual.ensures.1 in
    rw (p.1, p.2) (plan_refused job.several job.frame job.table.now c.in_err-mark_parents.field-0.0 c.in_err-mark_parents.ensures refl refl c.args.out.now)

pub of-requires : goal.of-requires
of-requires c = room (ready c.in_ok-mark_parents.ensures refl refl refl)

pub returns : goal.returns
returns c =
    let job = c.args.job in
    let n = c.of.ensures.numbers in
    let l = c.of.ensures.lists in
    plan_ends job.several job.frame job.table.now (ready c.in_ok-mark_parents.ensures refl refl refl) (rw (n.0, n.1, n.2, l.0, l.1, l.2) at c.plan.ensures)
