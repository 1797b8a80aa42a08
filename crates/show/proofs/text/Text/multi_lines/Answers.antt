-- What is left of the text is the lines of the runs left.
use Rattle.show.proofs.Runs.{next_listed}
use Rattle.show.proofs.Steps.{left_less, left_cut}
use Rattle.show.proofs.text.Text.multi_lines.Goals as goal

pub returns-in_err-run_line : goal.returns-in_err-run_line
returns-in_err-run_line c = left_cut _ (rw (next_listed c.loop-rest.rest.now c.in-len2-up.len_at_least c.in-Some.ensures) at c.loop-rest.invariant) (rw c.two_bytes-count.ensures at c.in_err-run_line.ensures) c.from_residual.ensures.0

pub loop-rest-preserved : goal.loop-rest-preserved
loop-rest-preserved c = left_less (rw (next_listed c.loop-rest.rest.now c.in-len2-up.len_at_least c.in-Some.ensures) at c.loop-rest.invariant) (rw c.two_bytes-count.ensures at c.in_ok-run_line.ensures)
