use mathlib.Core.Path.{◌≡◌}
use Prim.Native.Nat.{◌*◌, ◌≤◌, ◌^◌}
use Rattle.verdict.specs.Below.{sum_to}
use Rattle.specification.specs.Records.{text_length}
use Rattle.specification.proofs.records.Records.texts_sum.Given as goal

abbrev pub invariant-loop-r : goal.invariant-loop-r
invariant-loop-r l = (l.r ≤ l.count) × (l.sum ≡ sum_to (text_length l.self.file.now l.self.z) l.r) × (l.sum ≤ 2 ^ 8 * l.r)
