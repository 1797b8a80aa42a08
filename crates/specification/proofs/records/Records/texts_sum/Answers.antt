-- `texts_sum` adds up lengths: `sum` is that of the first r.
use borrow.Author.Rules.{rules}
use native.Mathlib.Omega.{arith}
use Rattle.verdict.specs.Below.{sum_to}
use Rattle.specification.specs.Records.{text_length}
use Rattle.verdict.proofs.Below.{sum_more}
use Rattle.specification.proofs.records.Records.texts_sum.Goals as goal

pub loop-r-init : goal.loop-r-init
unfolding sum_to
loop-r-init c = search rules

pub loop-r-preserved : goal.loop-r-preserved
loop-r-preserved c = (omega arith, omega (arith, sum_more (text_length c.args.self.file.now c.args.self.z) c.loop-r.r), omega arith)
