-- `first_same` finds the least state whose word stands before it.
use Rattle.std.proofs.Common.{◌≡◌, ◌<◌, ◌≤◌, List, ℕ, false, length, get_or, take, below_more, arith}
use Rattle.std.proofs.lemmas.Grind.{common_steps}
use lib.Dec.{eqb}
use borrow.Author.Tests.{eqb-false}
use Rattle.machine.specs.Moves.{SameWord}
use Rattle.tables.proofs.jobs.first_same.Goals as goal

-- where no word before it is that of a state, it has none of an earlier one
none_before : (words : List ℕ) {states s : ℕ} → s ≤ length words → ((k : ℕ) → k < length (take s words) → eqb (get_or (take s words) k 0) (get_or words s 0) ≡ false)
    → SameWord (λ q. get_or words q 0) states s → ⊥
none_before words {s = s} h none x = eqb-false _ _ (none x.earlier (grind (arith, common_steps))) (grind (arith, common_steps))

pub loop-s-preserved : goal.loop-s-preserved
loop-s-preserved c = below_more _ _ c.loop-s.invariant (none_before _ (omega arith) (λ k. c.if-contains.ensures.cases k 0 (omega arith)))

pub returns : goal.returns
returns c = record { nowhere = λ k x. c.loop-s.invariant k (omega (arith, x.state)) x }
