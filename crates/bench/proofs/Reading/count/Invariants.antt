use mathlib.Core.Path.{◌≡◌}
use Prim.Native.Nat.{◌+◌}
use lib.ListN.{get_or}
use Rattle.verdict.specs.Buffers.{Filled}
use Rattle.bench.specs.Readings.{differs_in, one_if}
use Rattle.bench.proofs.Reading.count.Given as goal

abbrev pub invariant-loop-output : goal.invariant-loop-output
invariant-loop-output l = Filled l.output (λ k x. x ≡ get_or l.initial.counts k 0 + one_if (differs_in k l.self)) l.initial.counts l.counts
