-- `all_counted` meets its contract: lists of sixteen counts are equal where each count is.
use native.Mathlib.Omega.{arith}
use Rattle.bench.proofs.Chains.{counted_by}
use Rattle.bench.proofs.Log.all_counted.Goals as goal

pub returns : goal.returns
returns c = counted_by c.args.self.now _ (omega arith) (rw c.counts.ensures at c.eq.ensures)
