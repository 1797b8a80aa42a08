-- `push` is one offer to one couple; there is room in the queue for a couple without a weight, and two bytes hold its number.
use Rattle.marking.proofs.Pushing.{room_free, push_given}
use native.Mathlib.Omega.{arith}
use Rattle.marking.proofs.queue.Queue.push.Goals as goal

pub offset_bounds-self-self : goal.offset_bounds-self-self
offset_bounds-self-self c = omega (arith, room_free c.requires.0 _ c.requires.1 c.if-self-couple.true)

pub bounds-self-self : goal.bounds-self-self
bounds-self-self c = omega (arith, room_free c.requires.0 _ c.requires.1 c.if-self-couple.true)

pub overflow_add-self : goal.overflow_add-self
overflow_add-self c = omega (arith, room_free c.requires.0 _ c.requires.1 c.if-self-couple.true)

pub returns-then-self-couple-clause-pushed : goal.returns-then-self-couple-clause-pushed
returns-then-self-couple-clause-pushed c = push_given c.args.couple c.requires.0 c.requires.1 c.requires.2 c.if-self-couple.true
