-- The plan answers refusal 16, or the list does, or both are printed in the sheet; each text has room.
use Rattle.std.proofs.Common.{◌≡◌, true, refl, arith}
use Rattle.machine.specs.Limits.{most_couples}
use Rattle.verdict.specs.declared.Refusal.{Refusal}
use Rattle.verdict.specs.Refusals.{number_of}
use Rattle.verdict.proofs.Refusals.{refusal_number}
use Rattle.several.proofs.Single.{singly_by}
use Rattle.sheet.specs.Printed.{plan_room, list_room}
use Rattle.sheet.proofs.Bounds.{lent}
use Rattle.sheet.proofs.Plans.{plan_refused, list_refused, plan_reach, list_reach, plan_printed, plan_roomy}
use Rattle.sheet.proofs.Rooms.{written_whole}
use Rattle.sheet.proofs.write_plan.Goals as goal

refuses : (r : Refusal) → number_of r ≡ 0 → ⊥
refuses r e = let h = refusal_number r in omega arith

pub returns-in-Err : goal.returns-in-Err
returns-in-Err c = record { text = _; is = plan_refused c.requires (singly_by true c.args.frame c.args.table.now) c.in-Err.ensures (lent most_couples) (lent plan_room) (refuses c.in-Err.refusal); writes = rw c.into.ensures at c.write_refusal.ensures }

pub returns-in-Err-multi_list : goal.returns-in-Err-multi_list
returns-in-Err-multi_list c = record { text = _; is = list_refused c.requires (singly_by true c.args.frame c.args.table.now) c.in-Ok.ensures (lent most_couples) (lent plan_room) refl c.in-Err-multi_list.ensures (lent list_room) (refuses c.in-Err-multi_list.refusal); writes = rw c.into-in-Err-multi_list.ensures at c.write_refusal-in-Err-multi_list.ensures }

pub slice_bounds-sheet-end-2 : goal.slice_bounds-sheet-end-2
slice_bounds-sheet-end-2 c = plan_reach c.requires (singly_by true c.args.frame c.args.table.now) c.in-Ok.ensures (lent most_couples) (lent plan_room) refl c.in-Ok-multi_list.ensures (lent list_room)

pub slice_bounds-sheet-end-3 : goal.slice_bounds-sheet-end-3
slice_bounds-sheet-end-3 c = list_reach c.requires (singly_by true c.args.frame c.args.table.now) c.in-Ok.ensures (lent most_couples) (lent plan_room) refl c.in-Ok-multi_list.ensures (lent list_room) refl

pub unwrap-requires : goal.unwrap-requires
unwrap-requires c = written_whole c.sheet.ensures (plan_roomy c.requires (singly_by true c.args.frame c.args.table.now) c.in-Ok.ensures (lent most_couples) (lent plan_room) refl c.in-Ok-multi_list.ensures (lent list_room) refl)

pub returns : goal.returns
returns c = record { text = _; is = plan_printed c.requires (singly_by true c.args.frame c.args.table.now) c.in-Ok.ensures (lent most_couples) (lent plan_room) refl c.in-Ok-multi_list.ensures (lent list_room) refl; writes = rw c.unwrap.ensures at c.sheet.ensures }
