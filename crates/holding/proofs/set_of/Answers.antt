-- `holding::set_of` meets its contract: each turn adds its setting where the condition holds there.
use Rattle.std.proofs.Common.{arith}
use Rattle.sets.proofs.Arrays.{set_in, set_out}
use Rattle.holding.proofs.set_of.Goals as goal
use Rattle.holding.proofs.set_of.Goals.{then-holds, else-holds}

pub loop-v-preserved : goal.loop-v-preserved
loop-v-preserved c = elim c.if-holds.branch [
  | then-holds w ↦
      rw w.set-is (set_in c.loop-v.invariant (omega (arith, c.settings-v-end.ensures.few.1)) (c.holds.ensures.holds w.if-holds.true) w.with-next.ensures.array
      w.with-next.ensures.members)
  | else-holds w ↦ rw w.set-is (set_out c.loop-v.invariant (c.holds.ensures.fails w.if-holds.false))
]
