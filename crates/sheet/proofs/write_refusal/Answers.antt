-- The line of a refusal has room, so that it is written whole.
use native.Mathlib.Omega.{arith}
use Rattle.sheet.proofs.Rooms.{refusal_fits, written_whole}
use Rattle.sheet.proofs.write_refusal.Goals as goal

pub unwrap-requires : goal.unwrap-requires
unwrap-requires c = written_whole c.refusal.ensures (omega (arith, refusal_fits c.args.answer.number c.args.answer.place c.args.character (omega arith) (omega arith) (omega arith)))
