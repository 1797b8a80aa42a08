-- The outputs in which readings differ: a list of readings counted with one more, and the two words of one reading. Words that are equal differ in no output, and
-- words of 16 outputs that are not equal in some, since numbers that agree at each of 16 bits agree below 2 to the 16th.
use Prim.Native.Nat.{ℕ, zero, suc, ◌+◌, ◌≤◌, ◌<◌}
use native.Mathlib.Omega.{arith}
use native.Mathlib.Nat.{mod-eq_of_lt}
use mathlib.Core.Path.{◌≡◌, refl, sym, ap, ◌∙◌}
use mathlib.Core.Bool.{Bool, true, false, cond, not}
use mathlib.Core.List.{List, [], ◌∷◌, ◌++◌}
use lib.Dec.{eqb}
use lib.ListN.{length, get_or, replicate, length-append}
use borrow.Author.Tests.{eqb-true, eqb-false, eq-eqb, not-false, not-true}
use Rattle.std.proofs.lemmas.List.Elements.{filter-append}
use Rattle.std.proofs.lemmas.List.Filters.{length-filter_both}
use Rattle.basics.specs.Words.{most_outputs}
use Rattle.verdict.specs.Below.{sum_to, list_to}
use Rattle.verdict.proofs.Below.{sum_below, list_at, list_same}
use Rattle.sets.proofs.Members.{same_bits}
use Rattle.bench.specs.declared.Reading.{Reading}
use Rattle.bench.specs.Readings.{differs, output_of, differs_in, those, times, one_if}
use Rattle.bench.specs.History.{Fits}

-- ---- one reading more
one_or_none : (r : Reading) (t : Bool) → length (cond t (r ∷ []) []) ≡ one_if t
one_or_none r true = refl
one_or_none r false = refl

module _ (p : Reading → Bool) where
  pub those_snoc : (rs : List Reading) (r : Reading) → those p (rs ++ r ∷ []) ≡ those p rs ++ cond (p r) (r ∷ []) []
  those_snoc rs r = filter-append p rs (r ∷ [])

  pub count_snoc : (rs : List Reading) (r : Reading) → length (those p (rs ++ r ∷ [])) ≡ length (those p rs) + one_if (p r)
  count_snoc rs r = rw (those_snoc rs r, length-append, one_or_none r (p r))

-- ---- the counts of all outputs
abbrev pub counts_of : List Reading → List ℕ
counts_of rs = list_to (times rs) most_outputs

pub counts_none : counts_of [] ≡ replicate most_outputs 0
unfolding list_to
counts_none = refl

-- no more are counted than there are
pub counts_few : (rs : List Reading) (j : ℕ) → j < most_outputs → get_or (counts_of rs) j 0 ≤ length rs
counts_few rs j h = rw (list_at (times rs) most_outputs j h) (omega (arith, length-filter_both (differs_in j) (λ r. not (differs_in j r)) (λ r. refl) rs))

pub counts_snoc : (rs : List Reading) (r : Reading) → list_to (λ j. get_or (counts_of rs) j 0 + one_if (differs_in j r)) most_outputs ≡ counts_of (rs ++ r ∷ [])
counts_snoc rs r = list_same _ _ most_outputs (λ j h. ap (λ t. t + one_if (differs_in j r)) (list_at (times rs) most_outputs j h) ∙ sym (count_snoc (differs_in j) rs r))

-- ---- the words of one reading
module _ (r : Reading) where
  -- an output differs only where the words do
  counted_in : (j : ℕ) (d : Bool) → differs r ≡ d → one_if (differs_in j r) ≤ one_if d
  counted_in j true e = at_most (differs_in j r)
    where
      at_most : (t : Bool) → one_if t ≤ 1
      at_most true = omega arith
      at_most false = omega arith
  counted_in j false e =
      let same : r.expected ≡ r.seen = eqb-true _ _ (not-false _ e) in
      let equal : differs_in j r ≡ false = ap not (eq-eqb _ _ (ap (λ w. output_of w j) same)) in
      simp equal (omega arith)

  pub no_more : (j : ℕ) → one_if (differs_in j r) ≤ one_if (differs r)
  no_more j = counted_in j (differs r) refl

  abbrev ones : ℕ → ℕ
  ones j = one_if (differs_in j r)

  -- an output in which they agree, by its part of the sum
  agree : (j : ℕ) (t : Bool) → eqb (output_of r.expected j) (output_of r.seen j) ≡ t → one_if (not t) ≡ 0 → output_of r.expected j ≡ output_of r.seen j
  agree j true e z = eqb-true _ _ e
  agree j false e z = absurd (omega (arith, z))

  some_of : Fits r → (n : ℕ) → sum_to ones most_outputs ≡ n → (d : Bool) → differs r ≡ d → one_if d ≤ n
  some_of w (suc n) e true t = omega arith
  some_of w n e false t = omega arith
  some_of w zero e true t =
      let each : (j : ℕ) → j < most_outputs → output_of r.expected j ≡ output_of r.seen j
      = λ j h. agree j _ refl (omega (arith, e, sum_below ones j most_outputs h)) in
      let same : r.expected ≡ r.seen = sym (mod-eq_of_lt w.expected) ∙ same_bits most_outputs r.expected r.seen each ∙ mod-eq_of_lt w.seen in
      absurd (eqb-false _ _ (not-true _ t) same)

  -- where they differ, some output does
  pub some_output : Fits r → one_if (differs r) ≤ sum_to ones most_outputs
  some_output w = some_of w (sum_to ones most_outputs) refl (differs r) refl
