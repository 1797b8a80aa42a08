-- `holds` is what the text says, and false where it does not read.
use Rattle.condition.proofs.Says.{says_holds}
use Rattle.condition.proofs.holds.Goals as goal

pub returns : goal.returns
returns c = rw c.unwrap_or.ensures (says_holds _ c.read.ensures)
