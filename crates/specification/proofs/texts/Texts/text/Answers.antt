-- `text` is the part of the file between two places, which is the record's text.
use native.Mathlib.Omega.{arith}
use Rattle.specification.proofs.Conditions.{record_ends, record_text}
use Rattle.specification.proofs.texts.Texts.text.Goals as goal

pub slice_bounds-result-count : goal.slice_bounds-result-count
slice_bounds-result-count c = omega (arith, record_ends c.args.self.placed c.requires)

pub slice_bounds-result-start : goal.slice_bounds-result-start
slice_bounds-result-start c = omega (arith, record_ends c.args.self.placed c.requires)

pub slice_bounds-result-end : goal.slice_bounds-result-end
slice_bounds-result-end c = omega (arith, record_ends c.args.self.placed c.requires)

pub returns : goal.returns
returns c = record_text c.args.self.placed c.requires
