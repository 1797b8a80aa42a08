-- What the chains of `is_sound` answer, in the words of the log's definitions: that each of the first elements of a list passes a test, and the sum of a list. Only where
-- the first test passes are the entries kept within the list.
use Prim.Native.Nat.{ℕ, zero, suc, ◌+◌, ◌≤◌, ◌<◌, min}
use native.Mathlib.Omega.{arith}
use native.Mathlib.Numerals.{add-one}
use mathlib.Core.Path.{◌≡◌, refl, sym, ap, ◌∙◌}
use mathlib.Core.Bool.{Bool, true, false, cond, ◌&&◌, and_comm}
use mathlib.Core.List.{List}
use lib.Dec.{eqb, leb}
use lib.ListN.{length, get_or, take}
use lib.Seq.{take_all}
use lib.Pointwise.{pointwise, bytes_decides}
use borrow.Author.Tests.{eqb-true}
use Rattle.std.specs.List.{list_all, sum}
use Rattle.std.proofs.lemmas.List.Folds.{list_all_more}
use Rattle.std.proofs.lemmas.List.Sums.{sum_by_more}
use Rattle.basics.specs.Words.{most_outputs}
use Rattle.verdict.specs.Below.{every, sum_to}
use Rattle.verdict.proofs.Tests.{true≢false, decides_equal, decides_unique}
use Rattle.verdict.proofs.Below.{decides_every, list_at, list_is}
use Rattle.bench.specs.declared.Log.{Log}
use Rattle.bench.specs.Readings.{differs, times}
use Rattle.bench.specs.Log.{most_entries, sound, blank, kept_of, entry_at, count_at}
use Rattle.bench.proofs.Differing.{counts_of}

module _ {A : Type 0} (p : A → Bool) (d : A) (xs : List A) where
  first_pass : (n : ℕ) → n ≤ length xs → list_all p (take n xs) ≡ every n (λ i. p (get_or xs i d))
  unfolding every
  first_pass zero h = refl
  first_pass (suc n) h = rw add-one at (list_all_more p xs n d (omega arith)) ∙ ap (λ t. t && p (get_or xs n d)) (first_pass n (omega arith)) ∙ and_comm (every n (λ i. p (get_or xs i d))) (p (get_or xs n d))

  all_pass : (n : ℕ) → length xs ≡ n → list_all p xs ≡ every n (λ i. p (get_or xs i d))
  all_pass n e = ap (list_all p) (sym (take_all n xs (omega arith))) ∙ first_pass n (omega arith)

first_sum : (xs : List ℕ) (n : ℕ) → n ≤ length xs → sum (take n xs) ≡ sum_to (λ i. get_or xs i 0) n
unfolding sum_to
first_sum xs zero h = refl
first_sum xs (suc n) h = rw add-one at (sum_by_more (λ x. x) xs n 0 (omega arith)) ∙ ap (λ s. s + get_or xs n 0) (first_sum xs n (omega arith))

sum_is : (xs : List ℕ) (n : ℕ) → length xs ≡ n → sum xs ≡ sum_to (λ i. get_or xs i 0) n
sum_is xs n e = ap sum (sym (take_all n xs (omega arith))) ∙ first_sum xs n (omega arith)

module _ (l : Log) where
  differ_is : l.kept ≤ length l.entries → list_all differs (kept_of l) ≡ every l.kept (λ i. differs (entry_at l i))
  differ_is h = first_pass differs blank l.entries l.kept h

  within_is : length l.outputs ≡ most_outputs → list_all (λ n. leb n l.differing) l.outputs ≡ every most_outputs (λ j. leb (count_at l j) l.differing)
  within_is e = all_pass (λ (n : ℕ). leb n l.differing) 0 l.outputs most_outputs e

  total_is : length l.outputs ≡ most_outputs → sum l.outputs ≡ sum_to (count_at l) most_outputs
  total_is e = sum_is l.outputs most_outputs e

  -- lists of counts are equal where each count is
  pub counted_by : (b : Bool) → length l.outputs ≡ most_outputs → b ≡ pointwise eqb l.outputs (counts_of (kept_of l)) → b ≡ every most_outputs (λ j. eqb (count_at l j) (times (kept_of l) j))
  counted_by b o same =
      let counted = times (kept_of l) in
      let equal = bytes_decides l.outputs (counts_of (kept_of l)) in
      decides_unique ((j : ℕ) → j < most_outputs → count_at l j ≡ counted j) b (every most_outputs (λ j. eqb (count_at l j) (counted j)))
      (record {
        holds = λ t j h. ap (λ xs. get_or xs j 0) (equal.0 (sym same ∙ t)) ∙ list_at counted most_outputs j h;
        fails = λ f each. true≢false (sym (equal.1 (list_is l.outputs counted most_outputs o each)) ∙ sym same ∙ f);
      })
      (decides_every most_outputs _ (λ j. count_at l j ≡ counted j) (λ j. decides_equal (count_at l j) (counted j)))

  -- the test of soundness, as the chains make it
  abbrev pub tested : Bool
  tested =
      eqb l.kept (min most_entries l.differing)
      && leb l.differing l.readings
      && list_all differs (kept_of l)
      && list_all (λ n. leb n l.differing) l.outputs
      && leb l.differing (sum l.outputs)
      && cond (leb l.differing most_entries) (every most_outputs (λ j. eqb (count_at l j) (times (kept_of l) j))) true

  pub sound_by : (b : Bool) → length l.entries ≡ most_entries → length l.outputs ≡ most_outputs → b ≡ tested → b ≡ sound l
  sound_by b e o same = same ∙ go (eqb l.kept (min most_entries l.differing)) refl
    where
      rest : Bool → Bool → Bool → ℕ → Bool → Bool
      rest a b c n d = a && leb l.differing l.readings && b && c && leb l.differing n && cond (leb l.differing most_entries) d true

      go : (a : Bool) → eqb l.kept (min most_entries l.differing) ≡ a
          → rest a (list_all differs (kept_of l)) (list_all (λ n. leb n l.differing) l.outputs) (sum l.outputs) (every most_outputs (λ j. eqb (count_at l j) (times (kept_of l) j)))
          ≡ rest a (every l.kept (λ i. differs (entry_at l i))) (every most_outputs (λ j. leb (count_at l j) l.differing)) (sum_to (count_at l) most_outputs) (every most_outputs (λ j. eqb (count_at l j) (times (kept_of l) j)))
      go false q = refl
      go true q = rw (differ_is (omega (arith, eqb-true l.kept (min most_entries l.differing) q)), within_is o, total_is o) refl
