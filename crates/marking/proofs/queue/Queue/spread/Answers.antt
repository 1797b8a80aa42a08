-- `spread` goes on over each couple that its changes bring to the weight, and stops at another or at the end.
use mathlib.Core.Path.{◌≡◌}
use native.Mathlib.Nat.{le_refl}
use native.Mathlib.Omega.{arith}
use Rattle.tables.specs.Tables.{machine_in}
use Rattle.marking.proofs.Lent.{lent_then}
use Rattle.marking.proofs.Heads.{head_in, going_more, going_end}
use Rattle.marking.proofs.queue.Queue.spread.Goals as goal

pub offset_bounds-self-head : goal.offset_bounds-self-head
offset_bounds-self-head c = omega (arith, head_in (machine_in c.args.sound.job) c.requires c.args.changes c.loop-head.invariant.0 c.loop-head-test.true)

pub bounds-self-head : goal.bounds-self-head
bounds-self-head c = omega (arith, head_in (machine_in c.args.sound.job) c.requires c.args.changes c.loop-head.invariant.0 c.loop-head-test.true)

pub loop-head-preserved : goal.loop-head-preserved
loop-head-preserved c = (
  going_more (machine_in c.args.sound.job) c.requires c.args.changes c.loop-head.invariant.0 c.loop-head-test.true
      (rw (c.from-couple.ensures, c.weight.ensures) at c.if-self-couple.false)
      (rw c.from-couple.ensures at c.expand.ensures.pushed),
  lent_then c.args.self.now c.loop-head.self c.expand.new.self c.loop-head.invariant.1 c.expand.ensures.lent,
)

pub returns-clause-spread : goal.returns-clause-spread
returns-clause-spread c = let e : c.loop-head.head ≡ c.args.to = omega arith in going_end (rw e at c.loop-head.invariant.0) (le_refl _)
