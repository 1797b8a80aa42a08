-- Each promise of this crate leaves one answer: a list of checks has one verdict.
use mathlib.Core.Path.{◌≡◌}
use mathlib.Core.List.{[], ◌∷◌}
use Prim.Native.Nat.{ℕ}
use Rattle.verdict.specs.Checks.{check, Short, room_checks, Passed, Judged}
use Rattle.verdict.specs.declared.Answer.{Answer}
use Rattle.verdict.specs.declared.Room.{Room}
use Rattle.verdict.proofs.Order.{judged_unique}

pub check_rooms_only : (first second third : Room) {a b : Answer} → Judged (room_checks first second third) Passed a → Judged (room_checks first second third) Passed b → a ≡ b
check_rooms_only first second third v w = judged_unique v w

pub check_room_only : (needed has : ℕ) {a b : Answer} → Judged (check 3 (Short needed has) ∷ []) Passed a → Judged (check 3 (Short needed has) ∷ []) Passed b → a ≡ b
check_room_only needed has v w = judged_unique v w
