-- `condition::read` meets its contract: what is found from the start is the whole text, or the text does not read, and the character is
-- the one behind where that ended.
use Rattle.condition.proofs.Whole.{whole, not_whole, none}
use Rattle.condition.proofs.read.Goals as goal

pub returns-in-Err : goal.returns-in-Err
returns-in-Err c = none _ c.in-Err.ensures

pub returns-in-Ok : goal.returns-in-Ok
returns-in-Ok c = whole _ c.if-part-text.true c.in-Ok.ensures

pub returns-in-Ok-2 : goal.returns-in-Ok-2
returns-in-Ok-2 c = not_whole _ c.if-part-text.false c.in-Ok.ensures
