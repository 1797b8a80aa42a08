use Prim.Native.Nat.{ℕ, ◌≤◌, ◌<◌}
use Rattle.specification.specs.Rules.{Unreads}
use Rattle.specification.proofs.texts.Texts.check_conditions.Given as goal

abbrev pub invariant-loop-r : goal.invariant-loop-r
invariant-loop-r l = (l.self.z.worded ≤ l.r) × ((k : ℕ) → k < l.r → Unreads l.self.file.now l.self.z k → ⊥)
