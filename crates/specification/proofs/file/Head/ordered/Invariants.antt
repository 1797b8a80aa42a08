use mathlib.Core.Path.{◌≡◌}
use Prim.Native.Nat.{ℕ, ◌+◌, ◌*◌, ◌≤◌, ◌<◌, ◌^◌}
use Rattle.specification.specs.File.{offset_of, start_of}
use Rattle.specification.specs.inner.Private.{KindFits}
use Rattle.specification.proofs.file.Head.ordered.Given as goal

abbrev pub invariant-loop-k : goal.invariant-loop-k
invariant-loop-k l =
    (l.k ≤ l.count) × (l.start ≡ start_of l.self.file.now l.k) × (l.start ≤ 2 ^ 16 + 2 ^ 16 * l.k) × ((j : ℕ) → j < l.k → KindFits l.self.file.now j × (offset_of l.self.file.now j ≡ start_of l.self.file.now j))
