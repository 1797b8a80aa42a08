-- `ordered` goes through the contents: the entries before k are right, and `start` is where the body of entry k starts. Where each kind
-- fits the one before they rise, the first four by their numbers.
use native.Mathlib.Omega.{arith}
use borrow.Author.Count.{below_more}
use Rattle.specification.proofs.Laws.{start_first, start_more}
use Rattle.specification.proofs.file.Head.ordered.Goals as goal

pub loop-k-init : goal.loop-k-init
loop-k-init c = (omega arith, omega (arith, start_first c.args.self.file.now, c.at-start.ensures, c.count-count.ensures), omega (arith, c.args.self.headed.enough, c.args.self.headed.few, c.at-start.ensures, c.count-count.ensures), λ j h. absurd (omega arith))

pub loop-k-preserved : goal.loop-k-preserved
loop-k-preserved c =
    (omega arith, omega (arith, start_more c.args.self.file.now c.loop-k.k, c.length-start.ensures.is), omega (arith, c.length-start.ensures.few), below_more _ _ c.loop-k.invariant.3 (c.kind_fits.ensures.holds c.if-not-kind_fits.false, omega arith))
