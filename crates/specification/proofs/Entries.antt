-- The entries of a file that passes 1: their kinds rise from 1 to the last, so that there are few, each kind has one entry, and what
-- is asked of an entry and the one before it is asked of all. The body of each lies in the file, between its start and that of the next.
use mathlib.Core.Path.{◌≡◌, refl}
use mathlib.Core.Logic.{⊎_elim}
use mathlib.Core.List.{List}
use Prim.Native.Nat.{ℕ, zero, suc, ◌+◌, ◌-◌, ◌≤◌, ◌<◌}
use native.Mathlib.Omega.{arith}
use native.Mathlib.Nat.{le_of_suc-le-suc, eq-or-lt_of_le}
use lib.ListN.{length}
use Rattle.specification.specs.File.{count_of, kind_of, length_of, start_of, EntryOf, Entries}
use Rattle.specification.specs.inner.Private.{most_kinds, KindFits}
use Rattle.specification.proofs.Laws.{start_more, start_le}

module _ {file : List ℕ} (x : Entries file) where
  high : (k : ℕ) → k < count_of file → k + 1 ≤ kind_of file k
  high zero l = omega (arith, x.always 0 (omega arith))
  high (suc k) l = omega (arith, high k (omega arith), x.rising k l)

  counted : (n : ℕ) → n ≡ count_of file → n ≤ most_kinds
  counted zero e = omega arith
  counted (suc n) e = omega (arith, high n (omega arith), x.known n (omega arith))

  pub count_few : count_of file ≤ most_kinds
  count_few = counted (count_of file) refl

  -- each kind fits, by itself and the one before
  pub kind_fit : (k : ℕ) → k < count_of file → KindFits file k
  kind_fit k l = record {
    always = x.always k;
    rising = λ h. let e : suc (k - 1) ≡ k = omega arith in rw e at (x.rising (k - 1) (omega arith));
    known = x.known k l;
  }

  -- a kind has one entry
  above : (i j : ℕ) → i < j → j < count_of file → kind_of file i < kind_of file j
  above i zero l h = absurd (omega arith)
  above i (suc j) l h = ⊎_elim (λ e. rw e (x.rising j h)) (λ k. omega (arith, above i j k (omega arith), x.rising j h)) (eq-or-lt_of_le (le_of_suc-le-suc l))

  pub one_entry : {kind i j : ℕ} → EntryOf file kind i → EntryOf file kind j → i ≡ j
  one_entry {i = i} {j} a b =
      let below : i < j → ⊥ = λ l. omega (arith, above i j l b.there, a.is, b.is) in
      let beyond : j < i → ⊥ = λ l. omega (arith, above j i l a.there, a.is, b.is) in
      omega arith

  pub body_within : (k : ℕ) → k < count_of file → start_of file k + length_of file k ≤ length file
  body_within k l = omega (arith, start_more file k, start_le file (k + 1) (count_of file) (omega arith), x.ends)
