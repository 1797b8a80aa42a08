use lib.ListN.{take}
use Rattle.show.specs.inner.Steps.{counted, Counted}
use Rattle.show.proofs.ranks.count_each.Given as goal

abbrev pub invariant-loop-rank : goal.invariant-loop-rank
invariant-loop-rank l = Counted counted (take l.rank-index l.ranks) l.counts
