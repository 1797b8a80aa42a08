-- `change` is two pushes, one after the other, to the two couples that a change visits, or one where they are one couple.
use Rattle.std.proofs.Common.{◌≡◌, ◌∙◌, ap, get_or, ℕ}
use Rattle.machine.specs.Runs.{move}
use Rattle.tables.specs.Tables.{machine_in}
use Rattle.marking.proofs.Expanding.{change_both}
use Rattle.marking.proofs.queue.Queue.change.Goals as goal

pub returns-then-moved-couple-clause-pushed : goal.returns-then-moved-couple-clause-pushed
returns-then-moved-couple-clause-pushed c =
    let (state, setting) = c.requires.inside in
    let entered = c.couple-couple.ensures.inside state setting in
    let is : c.from.result ≡ move (machine_in c.args.sound.job) c.args.state c.args.setting = c.from.ensures ∙ ap (λ (k : ℕ). get_or c.args.sound.job.table.now k 0) entered.0 in
    let moved = c.couple-moved.ensures.inside (rw is (c.args.sound.checked.sound.closed _ (rw entered.0 at entered.1))) setting in
    change_both (machine_in c.args.sound.job) c.args.state c.args.setting c.requires.room.1 entered.0 (rw is at moved.0) c.push.ensures.pushed c.push-then-moved-couple.ensures.pushed
