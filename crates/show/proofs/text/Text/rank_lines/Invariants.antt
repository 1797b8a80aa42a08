use Rattle.std.specs.Prelude.{Ok}
use Rattle.show.specs.Sheet.{count_of, rank_lines}
use Rattle.show.specs.inner.Steps.{Adds}
use Rattle.show.proofs.text.Text.rank_lines.Given as goal

abbrev pub invariant-loop-rank : goal.invariant-loop-rank
invariant-loop-rank l = Adds (rank_lines (λ k. count_of k l.ranks) l.rank) l.initial.self (Ok tt) l.self
