-- `shorten` judges the table and the plan in turn, and on success both passes go over the bytes.
use Rattle.std.proofs.Common.{rules, ◌≡◌, refl, subst, Err}
use Rattle.sets.proofs.Members.{zeros}
use Rattle.verdict.proofs.Fills.{written_done}
use Rattle.verdict.specs.Refusals.{refused_by}
use Rattle.machine.specs.Limits.{most_couples}
use Rattle.machine.proofs.Sizes.{couples_few}
use Rattle.shorten.specs.Shortening.{ShortenedAs}
use Rattle.shorten.proofs.Outcomes.{no_runs, split, done}
use Rattle.shorten.proofs.shorten.Goals as goal

pub returns-in_err-check_plan : goal.returns-in_err-check_plan
returns-in_err-check_plan c =
    let sound = c.in_ok-sound.ensures in
    let a = c.args in
    let r = c.in_err-check_plan.field-0.0 in
    let same : c.from_residual-in_err-check_plan.result ≡ Err r = search rules in
    rw same
    (subst (λ m. ShortenedAs m a.plan.now (refused_by r) a.plan.now) c.single-job.ensures.0
    (no_runs r (rw sound.job at c.in_ok-sound.sound.checked.tabled) sound.verdict c.in_err-check_plan.ensures))

pub mark_all-requires-clause-runs : goal.mark_all-requires-clause-runs
mark_all-requires-clause-runs c =
    let sound = c.in_ok-sound.ensures in
    rw sound.job (split (rw sound.job at c.in_ok-sound.sound.checked.tabled) c.in_ok-check_plan.ensures)

pub mark_all-requires-clause-fresh : goal.mark_all-requires-clause-fresh
mark_all-requires-clause-fresh c = record { room = couples_few c.in_ok-sound.sound.checked.tabled.sized; none = zeros most_couples }

pub keep-requires-clause-runs : goal.keep-requires-clause-runs
keep-requires-clause-runs c =
    let sound = c.in_ok-sound.ensures in
    rw (c.mark_all.ensures.same, sound.job) (split (rw sound.job at c.in_ok-sound.sound.checked.tabled) c.in_ok-check_plan.ensures)

pub returns : goal.returns
returns c =
    let job = c.single-job.ensures.0 in
    let sound = c.in_ok-sound.ensures in
    let kept = rw (c.mark_all.ensures.same, sound.job) at c.keep.ensures in
    let a = c.args in
    subst (λ m. ShortenedAs m a.plan.now (record { number = 0; place = c.keep.result }) c.keep.new.plan) job (record {
      verdict = done (rw sound.job at c.in_ok-sound.sound.checked.tabled) c.in_ok-check_plan.ensures sound.verdict kept;
      plan = written_done refl kept.front kept.shortened;
    })
