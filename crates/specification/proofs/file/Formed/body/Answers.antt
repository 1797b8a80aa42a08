-- `body` is the part of the file from its entry's offset on, which lies in the file.
use native.Mathlib.Omega.{arith}
use Rattle.specification.proofs.Optional.{offset_within, body_at}
use Rattle.specification.proofs.file.Formed.body.Goals as goal

pub overflow_add-result : goal.overflow_add-result
overflow_add-result c = let f = c.args.self.formed in omega (arith, f.headed.few, offset_within f.entries c.requires c.offset-at.ensures c.length.ensures.is)

pub slice_bounds-result-end : goal.slice_bounds-result-end
slice_bounds-result-end c = let f = c.args.self.formed in offset_within f.entries c.requires c.offset-at.ensures c.length.ensures.is

pub returns : goal.returns
returns c = let f = c.args.self.formed in body_at f.entries c.requires c.offset-at.ensures c.length.ensures.is
