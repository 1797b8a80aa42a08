-- A word, two numbers, then the line feed.
use Rattle.show.proofs.Steps.{adds_then, adds_cut}
use Rattle.show.proofs.text.Text.rank_line.Goals as goal

pub returns-in_err-named : goal.returns-in_err-named
returns-in_err-named c = adds_cut _ c.in_err-named.ensures c.from_residual.ensures.0

pub returns-in_err-field : goal.returns-in_err-field
returns-in_err-field c = adds_then c.in_ok-named.ensures (adds_cut _ c.in_err-field.ensures c.from_residual-in_err-field.ensures.0)
