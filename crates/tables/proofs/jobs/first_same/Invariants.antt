use Rattle.std.proofs.Common.{ℕ, ◌<◌, get_or}
use Rattle.machine.specs.Moves.{SameWord}
use Rattle.tables.proofs.jobs.first_same.Given as goal

abbrev pub invariant-loop-s : goal.invariant-loop-s
invariant-loop-s l = (k : ℕ) → k < l.s → SameWord (λ q. get_or l.words q 0) l.states k → ⊥
