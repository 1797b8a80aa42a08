-- `to` is the setting with an input flipped, or any other, where a run may change to it.
use Rattle.marking.proofs.Expanding.{told_single}
use Rattle.marking.proofs.changes.Changes.to.Goals as goal

pub returns-in-Single : goal.returns-in-Single
returns-in-Single c = rw (c.in-Single.is, c.then_some.ensures) (told_single c.args.sound.job.several c.args.sound.job.frame c.args.sound.job.table.now c.args.from c.args.i (rw c.in-Single.is at c.requires.1) c.flip-to.ensures c.usable.ensures)
