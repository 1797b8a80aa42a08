-- The first line, the lines of the ranks, those of the plan and those of the list, one behind the other.
use mathlib.Core.Path.{refl}
use Rattle.std.proofs.Common.{rules}
use Rattle.show.proofs.Steps.{adds_then, adds_cut, writes_all, writes_cut}
use Rattle.show.proofs.sheet.Goals as goal

pub returns-in_err-first_line : goal.returns-in_err-first_line
returns-in_err-first_line c = writes_cut refl (adds_cut _ (rw c.marked.ensures at c.in_err-first_line.ensures) refl) c.from_residual.ensures.0 (search rules)

pub returns-in_err-rank_lines : goal.returns-in_err-rank_lines
returns-in_err-rank_lines c = writes_cut refl (adds_then (rw c.marked.ensures at c.in_ok-first_line.ensures) (adds_cut _ c.in_err-rank_lines.ensures refl)) c.from_residual-in_err-rank_lines.ensures.0 (search rules)

pub returns-in_err-run_lines : goal.returns-in_err-run_lines
returns-in_err-run_lines c = writes_cut refl (adds_then (rw c.marked.ensures at c.in_ok-first_line.ensures) (adds_then c.in_ok-rank_lines.ensures (adds_cut _ c.in_err-run_lines.ensures refl))) c.from_residual-in_err-run_lines.ensures.0 (search rules)

pub returns-in_err-multi_lines : goal.returns-in_err-multi_lines
returns-in_err-multi_lines c = writes_cut refl (adds_then (rw c.marked.ensures at c.in_ok-first_line.ensures) (adds_then c.in_ok-rank_lines.ensures (adds_then c.in_ok-run_lines.ensures c.in_err-multi_lines.ensures))) c.from_residual-in_err-multi_lines.ensures.0 (search rules)

pub returns : goal.returns
returns c = writes_all refl (adds_then (rw c.marked.ensures at c.in_ok-first_line.ensures) (adds_then c.in_ok-rank_lines.ensures (adds_then c.in_ok-run_lines.ensures c.in_ok-multi_lines.ensures))) (search rules)
