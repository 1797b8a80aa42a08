-- Four words with their numbers, then the line feed.
use Rattle.show.specs.Sheet.{first_line}
use Rattle.show.proofs.Steps.{adds_then, adds_cut}
use Rattle.show.proofs.text.Text.first_line.Goals as goal

pub returns-in_err-named : goal.returns-in_err-named
unfolding first_line
returns-in_err-named c = adds_cut _ c.in_err-named.ensures c.from_residual.ensures.0

pub returns-in_err-named-2 : goal.returns-in_err-named-2
unfolding first_line
returns-in_err-named-2 c = adds_then c.in_ok-named.ensures (adds_cut _ c.in_err-named-2.ensures c.from_residual-in_err-named-2.ensures.0)

pub returns-in_err-named-3 : goal.returns-in_err-named-3
unfolding first_line
returns-in_err-named-3 c = adds_then c.in_ok-named.ensures (adds_then c.in_ok-named-2.ensures (adds_cut _ c.in_err-named-3.ensures c.from_residual-in_err-named-3.ensures.0))

pub returns-in_err-named-4 : goal.returns-in_err-named-4
unfolding first_line
returns-in_err-named-4 c = adds_then c.in_ok-named.ensures (adds_then c.in_ok-named-2.ensures (adds_then c.in_ok-named-3.ensures (adds_cut _ c.in_err-named-4.ensures c.from_residual-in_err-named-4.ensures.0)))

pub returns : goal.returns
unfolding first_line
returns c = adds_then c.in_ok-named.ensures (adds_then c.in_ok-named-2.ensures (adds_then c.in_ok-named-3.ensures (adds_then c.in_ok-named-4.ensures c.byte.ensures)))
