-- What reading hands on while it is filled: the first i records are the evolutions and the rest as they were. By induction on i.
use Prim.Native.Nat.{ℕ, zero, suc, ◌+◌, ◌≤◌, ◌<◌}
use native.Mathlib.Omega.{arith}
use native.Mathlib.Numerals.{add-one}
use mathlib.Core.Path.{◌≡◌, refl, sym, ap₂, ◌∙◌}
use mathlib.Core.List.{List, ◌++◌}
use lib.ListN.{length, get_or, drop, set, length-append}
use lib.Seq.{drop-cons, set_at, append_snoc}
use Rattle.std.proofs.Common.{drop_of_length-le}
use Rattle.std.proofs.lemmas.List.{append-nil}
use Rattle.evolutions.specs.Evolutions.{blank}
use Rattle.evolutions.specs.declared.Evolution.{Evolution}
use Rattle.specification.specs.Evolutions.{evolution_of, evolutions}
use Rattle.specification.specs.declared.records.Sizes.{Sizes}

module _ (file : List ℕ) (z : Sizes) where
  count_is : (n : ℕ) → length (evolutions file z n) ≡ n
  unfolding evolutions
  count_is zero = refl
  count_is (suc n) = rw (length-append, count_is n, add-one)

  pub handed_none : (ys : List Evolution) → ys ≡ evolutions file z 0 ++ drop 0 ys
  unfolding evolutions
  handed_none ys = refl

  pub handed_more : (ys : List Evolution) (i : ℕ) → i < length ys → set (evolutions file z i ++ drop i ys) i (evolution_of file z i) ≡ evolutions file z (i + 1) ++ drop (i + 1) ys
  unfolding evolutions
  handed_more ys i h =
      rw (add-one i, drop-cons ys i blank h, set_at (evolutions file z i) (get_or ys i blank) (drop (suc i) ys) (evolution_of file z i) i (count_is i))
      (sym (append_snoc (evolutions file z i) (evolution_of file z i) (drop (suc i) ys)))

  -- where all of a front are filled
  pub handed_all : (ys : List Evolution) (i n : ℕ) → length ys ≡ n → length ys ≤ i → i ≤ n → evolutions file z i ++ drop i ys ≡ evolutions file z n
  handed_all ys i n l h k =
      let e : i ≡ n = omega arith in
      ap₂ (λ (j : ℕ) (rest : List Evolution). evolutions file z j ++ rest) e (drop_of_length-le ys h) ∙ append-nil (evolutions file z n)
