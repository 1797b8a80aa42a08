use mathlib.Core.Path.{◌≡◌}
use Prim.Native.Nat.{◌*◌, ◌^◌, ◌≤◌}
use Rattle.verdict.specs.Buffers.{Filled}
use Rattle.verdict.specs.Below.{sum_to}
use Rattle.specification.specs.Records.{text_length}
use Rattle.specification.specs.Rules.{text_at}
use Rattle.specification.proofs.specification.Specification.places.Given as goal

abbrev pub invariant-loop-r : goal.invariant-loop-r
invariant-loop-r l =
    (l.r ≤ l.count) × (l.at ≡ text_at l.self.file.now l.self.z l.r) × (sum_to (text_length l.self.file.now l.self.z) l.r ≤ 2 ^ 8 * l.r) × Filled l.r (λ k x. x ≡ text_at l.self.file.now l.self.z k) l.initial.places l.places
