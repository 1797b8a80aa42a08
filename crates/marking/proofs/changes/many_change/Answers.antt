-- `many_change` decides a multiple change that a run may make: several inputs may change at once, the ones of the exclusive or, which are
-- the inputs that differ, are two or more, and the setting is not ruled out.
use native.Mathlib.Omega.{arith}
use mathlib.Core.Path.{sym, ◌∙◌}
use Prim.Native.Nat.{◌<◌}
use borrow.Author.Tests.{leb-true, leb-false}
use Rattle.machine.specs.Couples.{differing}
use Rattle.verdict.proofs.Tests.{true≢false, it_fails}
use Rattle.machine.proofs.Ones.{differing_ones}
use Rattle.marking.proofs.Expanding.{many_made, many_none}
use Rattle.marking.proofs.changes.many_change.Goals.{then-job, else-job}
use Rattle.marking.proofs.changes.many_change.Goals as goal

pub returns-then-from-to-ge2 : goal.returns-then-from-to-ge2
returns-then-from-to-ge2 c =
    let j = c.args.job in
    elim c.if-job.branch [
      | then-job w ↦ let k : 1 < differing j.frame.inputs c.args.from c.args.to = omega (arith, differing_ones j.frame.inputs c.args.from c.args.to c.requires.0 c.requires.1, leb-true 2 _ (sym w.value-is ∙ c.if-from-to-ge2.true)) in many_made j.several j.frame j.table.now c.args.from c.args.to w.if-job.true k c.usable.ensures
      | else-job w ↦ absurd (true≢false (sym c.if-from-to-ge2.true ∙ w.value-is ∙ w.if-job.false))
    ]

pub returns-else-from-to-ge2 : goal.returns-else-from-to-ge2
returns-else-from-to-ge2 c =
    let j = c.args.job in
    rw c.if-from-to-ge2.false (elim c.if-job.branch [
      | then-job w ↦ it_fails λ (k, _). omega (arith, differing_ones j.frame.inputs c.args.from c.args.to c.requires.0 c.requires.1, leb-false 2 _ (sym w.value-is ∙ c.if-from-to-ge2.false))
      | else-job w ↦ many_none j.several j.frame j.table.now c.args.from c.args.to w.if-job.false
    ])
