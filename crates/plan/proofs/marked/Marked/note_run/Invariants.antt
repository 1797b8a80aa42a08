use mathlib.Core.Path.{◌≡◌}
use Prim.Native.Nat.{◌-◌, ◌<◌}
use Rattle.plan.specs.inner.Choosing.{noted_run}
use Rattle.plan.proofs.marked.Marked.note_run.Given as goal

abbrev pub invariant-loop : goal.invariant-loop
invariant-loop l =
    let m = l.self in
    (l.c < m.couples) × (noted_run m.table.now m.parents.now m.size l.c (l.changes - l.counter) l.visited ≡ noted_run m.table.now m.parents.now m.size l.couple l.changes l.initial.visited)
