-- `total` meets its contract: sixteen counts of 32 bits each add up to less than 2 to the 64th.
use Rattle.std.proofs.Common.{rules, tests, arith}
use Rattle.std.proofs.lemmas.Iterator.{YieldsList-from_slice}
use Rattle.std.proofs.lemmas.Iterator.Adapters.{fits_from_length, at_most_from_yields_List}
use Rattle.bench.proofs.Log.total.Goals as goal

pub sum-requires-clause-fits : goal.sum-requires-clause-fits
sum-requires-clause-fits c = fits_from_length _ _ 16 _ (at_most_from_yields_List (YieldsList-from_slice c.args.self.now.outputs cc) (grind arith)) c.map.ensures.closure (omega arith) (λ x r q k. search (rules, tests))
