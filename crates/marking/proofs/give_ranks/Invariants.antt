use mathlib.Core.Path.{◌≡◌}
use lib.ListN.{get_or}
use Rattle.verdict.specs.Buffers.{Filled}
use Rattle.marking.specs.inner.Parts.{rank_of}
use Rattle.marking.proofs.give_ranks.Given as goal

abbrev pub invariant-loop-c : goal.invariant-loop-c
invariant-loop-c l = Filled l.c (λ d x. x ≡ rank_of (get_or l.weights d 0)) l.initial.ranks l.ranks
