-- `expand` offers to what the first i changes tried visit; from a couple that is not at rest no change visits anything.
use mathlib.Core.Path.{◌≡◌}
use native.Mathlib.Omega.{arith}
use lib.Pow.{pow_pos}
use Rattle.machine.specs.Runs.{size}
use Rattle.machine.proofs.Couples.{couple_of}
use Rattle.tables.specs.Tables.{machine_in}
use Rattle.marking.specs.inner.Engine.{tried, ByNth}
use Rattle.marking.proofs.Lent.{lent_then}
use Rattle.marking.proofs.Expanding.{one_more, one_passed, nth_made, nth_none, nth_below, all_tried}
use Rattle.marking.proofs.queue.Queue.expand.Goals.{in-Some, in_default}
use Rattle.marking.proofs.queue.Queue.expand.Goals as goal

pub change-requires-clause-inside : goal.change-requires-clause-inside
change-requires-clause-inside c =
    let m = machine_in c.args.sound.job in
    let e : c.settings-settings.result ≡ size m = c.settings-settings.ensures in
    let at = couple_of c.args.couple (pow_pos m.inputs) (rw c.requires.total at c.requires.below) in
    rw e (at.state, nth_below c.args.changes m at.setting (omega (arith, c.tried-i-end.ensures)) (rw e at c.in-Some.ensures))

pub loop-i-preserved : goal.loop-i-preserved
loop-i-preserved c =
    let m = machine_in c.args.sound.job in
    let e : c.settings-settings.result ≡ size m = c.settings-settings.ensures in
    let inv = c.loop-i.invariant in
    elim c.match-to.branch [
      | in-Some w ↦ rw w.self-is (
        one_more (ByNth c.args.changes m c.args.couple) c.loop-i.i c.requires.small inv.0 (nth_made c.args.changes m c.args.couple c.loop-i.i (rw e at w.in-Some.ensures) (rw e at w.change.ensures.pushed)),
        lent_then c.args.self.now c.loop-i.self w.change.new.self inv.1 w.change.ensures.lent,
      )
      | in_default w ↦ rw w.self-is (
        one_passed (ByNth c.args.changes m c.args.couple) c.loop-i.i c.requires.small inv.0 (nth_none c.args.changes m c.args.couple c.loop-i.i (rw e at w.in_default.ensures)),
        inv.1,
      )
    ]

pub returns-clause-pushed : goal.returns-clause-pushed
returns-clause-pushed c =
    let m = machine_in c.args.sound.job in
    let e : c.settings-settings.result ≡ size m = c.settings-settings.ensures in
    let all : c.loop-i.i ≡ tried c.args.changes m = omega (arith, c.tried-i-end.ensures) in
    all_tried m c.args.couple (rw (c.from.ensures, e) at c.if-from-state.false) c.args.changes (rw all at c.loop-i.invariant.0)
