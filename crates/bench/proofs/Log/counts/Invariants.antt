use mathlib.Core.Path.{◌≡◌}
use lib.ListN.{take}
use Rattle.bench.proofs.Differing.{counts_of}
use Rattle.bench.proofs.Log.counts.Given as goal

abbrev pub invariant-loop-i : goal.invariant-loop-i
invariant-loop-i l = l.counts ≡ counts_of (take l.i l.self.entries)
