-- What is left of the text is the lines of the runs left, numbered from the next one.
use native.Mathlib.Omega.{arith}
use native.Mathlib.Numerals.{add-one}
use Rattle.show.proofs.Runs.{next_run, run_shorter}
use Rattle.show.proofs.Steps.{left_less, left_cut}
use Rattle.show.proofs.text.Text.run_lines.Goals as goal

pub returns-in_err-run_line : goal.returns-in_err-run_line
returns-in_err-run_line c = left_cut _ (rw (next_run c.loop-settings.rest.now c.in-Some.ensures) at c.loop-settings.invariant.1) c.in_err-run_line.ensures c.from_residual.ensures.0

pub loop-settings-preserved : goal.loop-settings-preserved
loop-settings-preserved c = (omega (arith, c.loop-settings.invariant.0, run_shorter c.loop-settings.rest.now c.in-Some.ensures), rw add-one (left_less (rw (next_run c.loop-settings.rest.now c.in-Some.ensures) at c.loop-settings.invariant.1) c.in_ok-run_line.ensures))
