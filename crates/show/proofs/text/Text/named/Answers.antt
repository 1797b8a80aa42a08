-- The word, then the number behind a blank.
use Rattle.show.proofs.Steps.{adds_cut}
use Rattle.show.proofs.text.Text.named.Goals as goal

pub returns-in_err-word : goal.returns-in_err-word
returns-in_err-word c = adds_cut _ c.in_err-word.ensures c.from_residual.ensures.0
