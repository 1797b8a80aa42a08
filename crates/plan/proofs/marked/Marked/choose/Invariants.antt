use Rattle.plan.specs.inner.Choosing.{Chosen}
use Rattle.plan.proofs.marked.Marked.choose.Given as goal

abbrev pub invariant-loop-c : goal.invariant-loop-c
invariant-loop-c l =
    let m = l.self in
    Chosen m.several m.table.now m.parents.now m.weights.now m.size l.c l.bytes l.initial.visited l.initial.chosen l.visited l.chosen
