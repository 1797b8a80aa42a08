-- `round` lets each head go on to the next weight.
use Rattle.marking.proofs.Filling.{machine_alters, next_room, spreads_one, spreads_two, fill_next}
use Rattle.marking.proofs.queue.Queue.round.Goals as goal

pub next_weight-weight-requires : goal.next_weight-weight-requires
next_weight-weight-requires c = next_room c.args.sound.checked c.requires.0 c.args.sound.job.several c.requires.1.head

pub spread-single-requires : goal.spread-single-requires
spread-single-requires c = spreads_one c.args.sound.checked c.requires.0 c.next_weight-weight.ensures

pub spread-many-requires : goal.spread-many-requires
spread-many-requires c = spreads_two c.args.sound.checked c.requires.0 c.next_weight-weight.ensures c.spread-single.ensures.spread

pub returns-clause-progress : goal.returns-clause-progress
returns-clause-progress c = fill_next c.args.sound.checked c.requires.0 c.next_weight-weight.ensures c.spread-single.ensures.spread (machine_alters c.args.sound.job.frame c.args.sound.job.table.now c.args.sound.job.several) c.spread-many.ensures.spread
