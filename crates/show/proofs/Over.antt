-- A text over the front of a buffer: its length, one byte more, and what the answer tells. By induction on the text and the buffer.
use mathlib.Core.Path.{◌≡◌, refl, ap}
use mathlib.Core.Bool.{Bool, true, false, cond}
use mathlib.Core.List.{List, [], ◌∷◌, ◌++◌}
use Prim.Native.Nat.{ℕ, suc, ◌≤◌, ◌<◌}
use native.Mathlib.Omega.{arith}
use lib.Dec.{leb}
use lib.ListN.{length, set}
use borrow.Author.Tests.{leb-true, le-leb, lt-leb}
use Rattle.std.specs.Prelude.{Result, Ok, Err}
use Rattle.show.specs.declared.Short.{Short}
use Rattle.show.specs.Written.{over, written}

pub length_over : (text out : List ℕ) → length (over text out) ≡ length out
length_over [] out = refl
length_over (x ∷ text) [] = refl
length_over (x ∷ text) (y ∷ out) = ap suc (length_over text out)

-- a buffer that is full takes nothing more
pub over_full : (text more out : List ℕ) → length out ≤ length text → over (text ++ more) out ≡ over text out
over_full [] [] [] h = refl
over_full [] (z ∷ more) [] h = refl
over_full [] more (y ∷ out) h = absurd (omega arith)
over_full (x ∷ text) more [] h = refl
over_full (x ∷ text) more (y ∷ out) h = ap (λ (l : List ℕ). x ∷ l) (over_full text more out (omega arith))

-- a byte stored behind the text
pub over_byte : (text : List ℕ) (b : ℕ) (out : List ℕ) → length text < length out → over (text ++ (b ∷ [])) out ≡ set (over text out) (length text) b
over_byte [] b [] h = absurd (omega arith)
over_byte [] b (y ∷ out) h = refl
over_byte (x ∷ text) b [] h = absurd (omega arith)
over_byte (x ∷ text) b (y ∷ out) h = ap (λ (l : List ℕ). x ∷ l) (over_byte text b out (omega arith))

pub written_fits : (text out : List ℕ) → length text ≤ length out → written text out ≡ Ok (length text)
written_fits text out h = rw (le-leb _ _ h)

pub written_short : (text out : List ℕ) → length out < length text → written text out ≡ Err (record {})
written_short text out h = rw (lt-leb _ _ h)

-- what an answer tells of the lengths
pub record Fits (n : ℕ) (text out : List ℕ) : Type 0 where
  pub count : n ≡ length text
  pub room : length text ≤ length out

pub told_all : (text out : List ℕ) (n : ℕ) → Ok n ≡ written text out → Fits n text out
told_all text out n e = go (leb (length text) (length out)) refl e
  where
    go : (t : Bool) → leb (length text) (length out) ≡ t → ◌≡◌ {A = Result ℕ Short} (Ok n) (cond t (Ok (length text)) (Err (record {}))) → Fits n text out
    go true l e = record { count = cc; room = leb-true _ _ l }
    go false l e = absurd (cc)
