-- `give_starts` offers weight 0 to the starts among the first v settings.
use mathlib.Core.Path.{◌∙◌, sym}
use native.Mathlib.Omega.{arith}
use Rattle.tables.specs.Tables.{machine_in}
use Rattle.marking.specs.inner.Engine.{ByStart}
use Rattle.marking.proofs.Lent.{lent_then}
use Rattle.marking.proofs.Pushing.{pushed_as}
use Rattle.marking.proofs.Expanding.{one_more, one_passed}
use Rattle.marking.proofs.queue.Queue.give_starts.Goals.{then-is_start, else-is_start}
use Rattle.marking.proofs.queue.Queue.give_starts.Goals as goal

pub loop-v-preserved : goal.loop-v-preserved
loop-v-preserved c =
    let m = machine_in c.args.sized.job in
    let inv = c.loop-v.invariant in
    elim c.if-is_start.branch [
      | then-is_start w ↦ let is = (w.couple.ensures.inside c.args.sized.tabled.sized.begins (omega arith)).0 in rw w.self-is (
        one_more (ByStart m) c.loop-v.v (omega arith) inv.0 (pushed_as (λ d e. (c.is_start.ensures.holds w.if-is_start.true, e ∙ is)) (λ d e. e.1 ∙ sym is) w.push.ensures.pushed),
        lent_then c.args.self.now c.loop-v.self w.push.new.self inv.1 w.push.ensures.lent,
      )
      | else-is_start w ↦ rw w.self-is (one_passed (ByStart m) c.loop-v.v (omega arith) inv.0 (λ d e. c.is_start.ensures.fails w.if-is_start.false e.0), inv.1)
    ]
