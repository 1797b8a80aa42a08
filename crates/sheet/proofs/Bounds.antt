-- What is moved into a buffer, and what is printed, has no more bytes than the buffer.
use mathlib.Core.Path.{◌≡◌, ap, subst, ◌∙◌}
use mathlib.Core.List.{List}
use Prim.Native.Nat.{ℕ, ◌-◌, ◌≤◌}
use native.Mathlib.Omega.{arith}
use lib.ListN.{length, take, drop, replicate, length-take, length-replicate}
use Rattle.std.specs.Prelude.{Result, Ok}
use Rattle.sheet.specs.Printed.{Prints}
use Rattle.sheet.specs.inner.Steps.{Within}
use Rattle.show.proofs.Over.{length_over, told_all}

pub bytes_within : {E : Type 0} {r : Result ℕ E} {n : ℕ} (most : ℕ) → r ≡ Ok n → Within r most → n ≤ most
bytes_within {E} most e w = subst (λ (x : Result ℕ E). Within x most) e w

-- the same where the rest of a buffer was lent
pub more_within : (buffer : List ℕ) (at : ℕ) {E : Type 0} {r : Result ℕ E} {n : ℕ} → r ≡ Ok n → Within r (length (take (length buffer - at) (drop at buffer))) → n ≤ length buffer - at
more_within buffer at e w = omega (arith, bytes_within _ e w, length-take (length buffer - at) (drop at buffer))

pub text_within : {Is : List ℕ → Type 0} {n : ℕ} {before after : List ℕ} → Prints Is n before after → n ≤ length after
text_within {n = n} {before} p =
    let f = told_all p.text before n p.writes.answered in
    omega (arith, ap length p.writes.bytes ∙ length_over p.text before)

-- a fresh buffer of n elements
pub lent : (n : ℕ) → length {A = ℕ} (replicate n 0) ≡ n
lent n = length-replicate {A = ℕ} n 0
