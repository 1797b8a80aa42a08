-- `check_conditions` halts at the least condition that does not read: each below r reads, or is not asked.
use native.Mathlib.Omega.{arith}
use mathlib.Core.List.{List}
use mathlib.Core.Path.{subst}
use Prim.Native.Nat.{ℕ}
use Rattle.verdict.proofs.Order.{halt}
use Rattle.condition.specs.Condition.{Reads}
use Rattle.condition.proofs.Says.{says_unread}
use Rattle.specification.proofs.texts.Texts.check_conditions.Goals as goal

pub returns-in_default : goal.returns-in_default
returns-in_default c =
    let z = c.args.self.z in
    halt (record {
      here = record { below = omega arith; worded = c.loop-r.invariant.0; unread = subst (λ (w : List ℕ). Reads z.inputs w → ⊥) c.condition.ensures (says_unread c.in_default.ensures) };
      first = c.loop-r.invariant.1;
    })
