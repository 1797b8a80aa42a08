-- `check_sound` joins the verdicts of the sizes, the words' room, the moves and the states.
use Rattle.std.proofs.Common.{refl}
use Rattle.verdict.proofs.Order.{judged_on}
use Rattle.tables.proofs.Job.check_sound.Goals as goal

pub returns : goal.returns
returns c =
    let sized = c.in_ok-sized.ensures in
    let sound = c.in_ok-check_moves.ensures in
    judged_on 3 sized.verdict refl refl (judged_on 3 c.in_ok-check.ensures refl refl
    (judged_on 10 (rw sized.job at sound.verdict) refl refl (rw (sound.job, sized.job) at c.check_states.ensures)))
