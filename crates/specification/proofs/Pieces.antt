-- What stands in a list from a place on: a piece of it begins where those before it end.
use mathlib.Core.Path.{◌≡◌, refl, sym, ap, subst, ◌∙◌}
use mathlib.Core.List.{List, ◌++◌}
use Prim.Native.Nat.{ℕ, ◌+◌, ◌-◌, ◌≤◌, ◌<◌}
use native.Mathlib.Omega.{arith}
use lib.ListN.{length, get_or, take, drop, length-append, length-take, length-drop, get_or-append}
use lib.Seq.{get_or-take, get_or-drop, drop-drop, drop-append_seam}
use Rattle.verdict.specs.Below.{join_to}
use Rattle.verdict.proofs.Below.{join_at}
use Rattle.specification.specs.File.{two_at}
use Rattle.specification.specs.Rests.{two_bytes}

-- from the place a on w is l, to its end
pub record From (w : List ℕ) (a : ℕ) (l : List ℕ) : Type 0 where
  pub is : drop a w ≡ l
  pub long : length w ≡ a + length l

module _ {w : List ℕ} {a : ℕ} where
  pub after : (b : ℕ) (xs ys : List ℕ) → From w a (xs ++ ys) → b ≡ a + length xs → From w b ys
  after b xs ys d e =
      record {
        is = ap (λ n. drop n w) e ∙ sym (drop-drop (length xs) a w) ∙ ap (drop (length xs)) d.is ∙ drop-append_seam xs ys;
        long = omega (arith, d.long, length-append xs ys);
      }

  pub byte_at : {l : List ℕ} (i n : ℕ) → From w a l → n ≡ a + i → get_or w n 0 ≡ get_or l i 0
  byte_at i n d e = ap (λ n. get_or w n 0) e ∙ sym (get_or-drop a w i 0) ∙ ap (λ l. get_or l i 0) d.is

  pub two_at_lem : (n : ℕ) (u : List ℕ) → From w a (two_bytes n ++ u) → two_at w a ≡ n
  two_at_lem n u d = omega (arith, byte_at 0 a d (omega arith), byte_at 1 (a + 1) d refl)

  -- a stretch of another list that stands at the same place
  pub kept : (v ys : List ℕ) (n : ℕ) → From w a (take n (drop a v) ++ ys) → a + n ≤ length v → (i : ℕ) → a ≤ i → i < a + n → get_or w i 0 ≡ get_or v i 0
  kept v ys n d h i l m =
      let e : i ≡ a + (i - a) = omega arith in
      byte_at (i - a) i d e
      ∙ get_or-append (take n (drop a v)) ys 0 (i - a) (omega (arith, length-take n (drop a v), length-drop a v))
      ∙ get_or-take n (drop a v) (i - a) 0 (omega arith)
      ∙ get_or-drop a v (i - a) 0
      ∙ ap (λ n. get_or v n 0) (sym e)

-- one of the pieces stands where those before it end
pub piece_at : (f : ℕ → List ℕ) {w : List ℕ} {a : ℕ} (n : ℕ) (v : List ℕ) → From w a (join_to f n ++ v) → (k b : ℕ) → k < n → b ≡ a + length (join_to f k)
    → (u : List ℕ) × From w b (f k ++ u)
piece_at f {w} {a} n v d k b h e = let (u, q) = join_at f n k v h in (u, after b (join_to f k) (f k ++ u) (subst (From w a) q d) e)
