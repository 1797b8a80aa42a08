use mathlib.Core.Path.{◌≡◌}
use mathlib.Core.List.{◌++◌}
use Prim.Native.Nat.{◌+◌}
use lib.ListN.{drop}
use Rattle.specification.specs.Rules.{text_at}
use Rattle.specification.specs.Evolutions.{evolutions}
use Rattle.specification.proofs.specification.Specification.hand_on.Given as goal

abbrev pub invariant-loop-e : goal.invariant-loop-e
invariant-loop-e l = (l.at ≡ text_at l.self.file.now l.self.z (l.self.z.states + l.e)) × (l.record-items ≡ evolutions l.self.file.now l.self.z l.e ++ drop l.e l.initial.record-items)
