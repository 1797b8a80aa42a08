-- `count` meets its contract: the counts before the loop's output have their one more, the others are as they were.
use native.Mathlib.Omega.{arith}
use mathlib.Core.Path.{◌∙◌}
use Rattle.basics.specs.Words.{most_outputs}
use Rattle.verdict.proofs.Below.{list_is}
use Rattle.bench.proofs.Reading.count.Goals as goal

pub returns : goal.returns
returns c = list_is _ _ most_outputs (c.loop-output.invariant.same_length ∙ c.told-counts) (λ k h. c.loop-output.invariant.needed k (omega (arith, h, c.loop-output-test.false)))
