-- The text is the line of the refusal, or that of the machine which the front of the table makes.
use native.Mathlib.Omega.{arith}
use Rattle.machine.specs.Limits.{most_states, most_couples}
use Rattle.sheet.specs.Printed.{refused}
use Rattle.sheet.proofs.Bounds.{lent}
use Rattle.sheet.proofs.Files.{answers, table_reach, ready, read_printed}
use Rattle.sheet.proofs.write_sheet.Goals as goal

pub returns-then-answer-ne0 : goal.returns-then-answer-ne0
returns-then-answer-ne0 c = record { text = _; is = refused (answers c.read_here-contents.ensures (lent most_couples) (lent most_states)) c.read_here-contents.ensures.character c.if-answer-ne0.true; writes = c.write_refusal.ensures }

pub slice_bounds-write_plan-end : goal.slice_bounds-write_plan-end
slice_bounds-write_plan-end c = table_reach c.read_here-contents.ensures (lent most_couples) (lent most_states) c.if-answer-ne0.false c.settings.ensures.few.0

pub write_plan-requires : goal.write_plan-requires
write_plan-requires c = ready c.read_here-contents.ensures (lent most_couples) (lent most_states) c.if-answer-ne0.false c.settings.ensures.few.0 (omega (arith, c.requires))

pub returns : goal.returns
returns c = record { text = _; is = read_printed c.read_here-contents.ensures (lent most_couples) (lent most_states) c.if-answer-ne0.false c.settings.ensures.few.0 c.write_plan.ensures.is; writes = c.write_plan.ensures.writes }
