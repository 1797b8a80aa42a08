-- One line, written from the start: a word and two numbers, and for 5 a third one, then the line feed.
use mathlib.Core.Path.{refl}
use borrow.Author.Tests.{eq-eqb, ne_eqb}
use Rattle.std.proofs.Common.{rules}
use Rattle.show.proofs.Steps.{adds_then, adds_cut, writes_all, writes_cut}
use Rattle.show.proofs.refusal.Goals as goal
use Rattle.show.proofs.refusal.Goals.{then-number-eq5+in_ok-field-2, else-number-eq5}

pub returns-in_err-named : goal.returns-in_err-named
returns-in_err-named c = writes_cut refl (adds_cut _ c.in_err-named.ensures refl) c.from_residual.ensures.0 (search rules)

pub returns-in_err-field : goal.returns-in_err-field
returns-in_err-field c = writes_cut refl (adds_then c.in_ok-named.ensures (adds_cut _ c.in_err-field.ensures refl)) c.from_residual-in_err-field.ensures.0 (search rules)

pub returns-in_err-field-2 : goal.returns-in_err-field-2
returns-in_err-field-2 c = rw (eq-eqb _ _ c.if-number-eq5.true) (writes_cut refl (adds_then c.in_ok-named.ensures (adds_then c.in_ok-field.ensures (adds_cut _ c.in_err-field-2.ensures refl))) c.from_residual-in_err-field-2.ensures.0 (search rules))

pub returns-in_err-byte : goal.returns-in_err-byte
returns-in_err-byte c =
    elim c.if-number-eq5.branch [
      | then-number-eq5+in_ok-field-2 w ↦ rw (eq-eqb _ _ w.if-number-eq5.true) (writes_cut refl (adds_then c.in_ok-named.ensures (adds_then c.in_ok-field.ensures (adds_then w.in_ok-field-2.ensures (rw w.text-is at c.in_err-byte.ensures)))) c.from_residual-in_err-byte.ensures.0 (search rules))
      | else-number-eq5 w ↦ rw (ne_eqb _ _ w.if-number-eq5.false) (writes_cut refl (adds_then c.in_ok-named.ensures (adds_then c.in_ok-field.ensures (rw w.text-is at c.in_err-byte.ensures))) c.from_residual-in_err-byte.ensures.0 (search rules))
    ]

pub returns : goal.returns
returns c =
    elim c.if-number-eq5.branch [
      | then-number-eq5+in_ok-field-2 w ↦ rw (eq-eqb _ _ w.if-number-eq5.true) (writes_all refl (adds_then c.in_ok-named.ensures (adds_then c.in_ok-field.ensures (adds_then w.in_ok-field-2.ensures (rw w.text-is at c.in_ok-byte.ensures)))) (search rules))
      | else-number-eq5 w ↦ rw (ne_eqb _ _ w.if-number-eq5.false) (writes_all refl (adds_then c.in_ok-named.ensures (adds_then c.in_ok-field.ensures (rw w.text-is at c.in_ok-byte.ensures))) (search rules))
    ]
