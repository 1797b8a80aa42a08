-- `fill` begins with the starts and makes one round after the other, until none is left; each moves a head.
use borrow.Author.Rules.{rules}
use mathlib.Core.Path.{refl}
use Rattle.marking.proofs.Filling.{single_by, fill_first, fill_last}
use Rattle.marking.proofs.rounds.fill.Goals as goal

pub loop-queue-init : goal.loop-queue-init
loop-queue-init c = (fill_first c.args.sound.checked c.requires.0 (rw c.sized.ensures at c.give_starts.ensures.pushed), (refl, refl, refl))

pub returns : goal.returns
returns c =
    let all = fill_last c.args.sound.checked c.loop-queue.invariant.0 c.args.sound.job.several (single_by c.args.sound.job.frame c.args.sound.job.table.now c.args.sound.job.several) (c.round_left.ensures.fails c.loop-queue-test.false) in
    search (all, rules)
