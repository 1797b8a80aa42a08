-- The digits of the tenth part, then the last digit.
use mathlib.Core.Path.{◌≡◌}
use Prim.Native.Nat.{◌%◌}
use native.Mathlib.Omega.{arith}
use Rattle.show.proofs.Digits.{digits_one, digits_more}
use Rattle.show.proofs.Steps.{adds_then, adds_cut}
use Rattle.show.proofs.text.Text.+number.Goals as goal
use Rattle.show.proofs.text.Text.+number.Goals.{then-n-ge10+in_ok-number, else-n-ge10}

pub returns-in_err-number : goal.returns-in_err-number
returns-in_err-number t c = rw (digits_more _ c.if-n-ge10.true) (adds_cut _ c.in_err-number.ensures c.from_residual.ensures.0)

pub returns : goal.returns
returns t c =
    elim c.if-n-ge10.branch [
      | then-n-ge10+in_ok-number w ↦ rw (digits_more _ w.if-n-ge10.true) (adds_then w.in_ok-number.ensures (rw w.self-is at c.byte.ensures))
      | else-n-ge10 w ↦
          let e : c.args.n % 10 ≡ c.args.n = omega (arith, w.if-n-ge10.false) in
          rw (digits_one _ w.if-n-ge10.false) (rw (e, w.self-is) at c.byte.ensures)
    ]
