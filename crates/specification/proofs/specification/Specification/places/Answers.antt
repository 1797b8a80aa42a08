-- `places` adds up lengths: `at` is where text r begins, and the first r places are right.
use native.Mathlib.Omega.{arith}
use mathlib.Core.Path.{◌≡◌, ap, ◌∙◌}
use Rattle.verdict.proofs.Fills.{filled_none, filled_more, filled_at}
use Rattle.verdict.specs.Below.{sum_to}
use Rattle.specification.specs.Records.{records, text_length}
use Rattle.specification.specs.Rules.{text_at}
use Rattle.specification.proofs.Conditions.{placed}
use Rattle.verdict.proofs.Below.{sum_more}
use Rattle.specification.proofs.specification.Specification.places.Goals as goal

pub loop-r-init : goal.loop-r-init
unfolding sum_to
loop-r-init c = (omega arith, omega (arith, c.at-at.ensures), omega arith, filled_none _)

pub loop-r-preserved : goal.loop-r-preserved
loop-r-preserved c =
    let s = sum_more (text_length c.args.self.file.now c.args.self.z) c.loop-r.r in
    (omega arith, omega (arith, s, c.text_length.ensures), omega (arith, s, c.text_length.ensures), filled_more c.loop-r.invariant.3 (omega (arith, c.args.self.laid.ranges.few_states, c.args.self.laid.ranges.few_evolutions)) c.loop-r.invariant.1)

pub returns : goal.returns
returns c =
    let e : c.loop-r.r ≡ records c.args.self.z = omega (arith) in
    placed c.args.self.laid (filled_at c.loop-r.invariant.3 e) (omega (arith, c.args.self.laid.ranges.few_states, c.args.self.laid.ranges.few_evolutions)) (c.loop-r.invariant.1 ∙ ap (text_at c.args.self.file.now c.args.self.z) e)
