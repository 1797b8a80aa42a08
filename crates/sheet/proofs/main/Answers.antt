-- The bytes read and the bytes written lie within their buffers.
use mathlib.Core.Path.{sym, subst}
use Prim.Native.Nat.{ℕ, ◌≤◌}
use native.Mathlib.Nat.{le_refl}
use Rattle.sheet.specs.Printed.{text_room}
use Rattle.sheet.proofs.Bounds.{text_within, lent}
use Rattle.sheet.proofs.main.Goals as goal

pub slice_bounds-write_sheet-end-2 : goal.slice_bounds-write_sheet-end-2
slice_bounds-write_sheet-end-2 c = sym (lent text_room)

pub write_sheet-end-requires : goal.write_sheet-end-requires
write_sheet-end-requires c = subst (λ (n : ℕ). text_room ≤ n) (sym (lent text_room)) (le_refl text_room)

pub slice_bounds-write_all-end : goal.slice_bounds-write_all-end
slice_bounds-write_all-end c = text_within c.write_sheet-end.ensures
