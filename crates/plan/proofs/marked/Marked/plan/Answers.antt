-- The first pass counts and chooses what the second writes: the whole plan.
use Rattle.plan.proofs.Fronts.{ends_short, ends_front}
use Rattle.plan.proofs.Flags.{chosen_bytes, chosen_plan, chosen_weighed}
use Rattle.plan.proofs.marked.Marked.plan.Goals as goal

pub returns-then-out-bytes : goal.returns-then-out-bytes
returns-then-out-bytes c = ends_short (chosen_bytes c.choose-bytes.ensures) c.if-out-bytes.true

pub write_plan-requires-clause-weighed : goal.write_plan-requires-clause-weighed
write_plan-requires-clause-weighed c = chosen_weighed c.choose-bytes.ensures c.args.self.now.room.few

pub write_plan-requires-clause-fits : goal.write_plan-requires-clause-fits
write_plan-requires-clause-fits c =
    let made = c.choose-bytes.ensures in
    rw (chosen_plan made c.args.self.now.room.few, ← chosen_bytes made) c.if-out-bytes.false

pub returns : goal.returns
returns c =
    let made = c.choose-bytes.ensures in
    ends_front (chosen_bytes made) c.if-out-bytes.false (rw (chosen_plan made c.args.self.now.room.few) at c.write_plan.ensures)
