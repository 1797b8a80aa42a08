use Rattle.plan.specs.inner.Writing.{pieces, Put}
use Rattle.plan.proofs.marked.Marked.write_plan.Given as goal

abbrev pub invariant-loop-c : goal.invariant-loop-c
invariant-loop-c l =
    let m = l.self in
    Put (pieces m.several m.parents.now m.weights.now m.size l.chosen l.c) l.at l.initial.out l.out
