-- A blank, then the number.
use Rattle.show.proofs.Steps.{adds_cut}
use Rattle.show.proofs.text.Text.field.Goals as goal

pub returns-in_err-byte : goal.returns-in_err-byte
returns-in_err-byte c = adds_cut _ c.in_err-byte.ensures c.from_residual.ensures.0
