use mathlib.Core.Path.{◌≡◌}
use mathlib.Core.List.{◌++◌}
use Prim.Native.Nat.{◌<◌}
use lib.ListN.{length, drop}
use Rattle.plan.specs.inner.Writing.{settings}
use Rattle.plan.proofs.marked.Marked.write_run.Given as goal

abbrev pub invariant-loop-i : goal.invariant-loop-i
invariant-loop-i l =
    let m = l.self in
    (l.c < m.couples) × (settings m.parents.now m.size l.c l.i ++ drop l.i l.run ≡ settings m.parents.now m.size l.couple (length l.initial.run))
