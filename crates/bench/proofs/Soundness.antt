-- What the tests `sound` and `refuses` say of a log, and that an update keeps a sound log sound: by whether it is refused, its words differ, and the log has room.
use Prim.Native.Nat.{ℕ, ◌+◌, ◌≤◌, ◌<◌, min}
use native.Mathlib.Omega.{arith}
use native.Mathlib.Nat.{add-zero}
use native.Mathlib.Numerals.{add-one}
use mathlib.Core.Path.{◌≡◌, refl, sym, ap, ◌∙◌}
use mathlib.Core.Bool.{Bool, true, false, not}
use mathlib.Core.List.{[], ◌∷◌, ◌++◌}
use lib.Dec.{ltb, leb, eqb}
use lib.ListN.{length, get_or, set}
use lib.Seq.{take-suc-set, get_or-set_same, get_or-set_other}
use borrow.Author.Count.{below_more}
use borrow.Author.Tests.{ltb-true, ltb-false, eqb-false, not-false}
use Rattle.std.proofs.lemmas.Bool.{or_parts}
use Rattle.basics.specs.Words.{most_outputs}
use Rattle.verdict.specs.Checks.{Decides}
use Rattle.verdict.specs.Below.{every, sum_to}
use Rattle.verdict.proofs.Tests.{decides_map, decides_equal, decides_at_most, decides_true, decides_if, decides_is, ◌also◌}
use Rattle.verdict.proofs.Below.{decides_every, sum_plus, list_at}
use Rattle.bench.specs.declared.Reading.{Reading}
use Rattle.bench.specs.declared.Log.{Log}
use Rattle.bench.specs.Readings.{differs, differs_in, times, one_if}
use Rattle.bench.specs.Log.{most_entries, most_readings, blank, kept_of, entry_at, count_at, stores, sound, refuses, noted, update_of}
use Rattle.bench.specs.History.{Fits}
use Rattle.bench.proofs.Differing.{count_snoc, no_more, some_output}

-- the clauses of `sound` that go through entries or counts
abbrev pub Unequal : Log → Type 0
Unequal l = (i : ℕ) → i < l.kept → differs (entry_at l i) ≡ true

abbrev pub Most : Log → Type 0
Most l = (j : ℕ) → j < most_outputs → count_at l j ≤ l.differing

abbrev pub Exact : Log → Type 0
Exact l = (j : ℕ) → j < most_outputs → count_at l j ≡ times (kept_of l) j

-- all of them, in their order
pub record Sound (l : Log) : Type 0 where
  pub smaller : l.kept ≡ min most_entries l.differing
  pub within : l.differing ≤ l.readings
  pub unequal : Unequal l
  pub most : Most l
  pub least : l.differing ≤ sum_to (count_at l) most_outputs
  pub exact : l.differing ≤ most_entries → Exact l

module _ (l : Log) where
  decides_unequal : Decides (Unequal l) (every l.kept (λ i. differs (entry_at l i)))
  decides_unequal = decides_every l.kept _ (λ i. differs (entry_at l i) ≡ true) (λ i. decides_true (differs (entry_at l i)))

  decides_most : Decides (Most l) (every most_outputs (λ j. leb (count_at l j) l.differing))
  decides_most = decides_every most_outputs _ (λ j. count_at l j ≤ l.differing) (λ j. decides_at_most (count_at l j) l.differing)

  decides_exact : Decides (Exact l) (every most_outputs (λ j. eqb (count_at l j) (times (kept_of l) j)))
  decides_exact = decides_every most_outputs _ (λ j. count_at l j ≡ times (kept_of l) j) (λ j. decides_equal (count_at l j) (times (kept_of l) j))

  pub decides_sound : Decides (Sound l) (sound l)
  decides_sound = decides_map
      (λ (((((a, b), c), d), e), f). record { smaller = a; within = b; unequal = c; most = d; least = e; exact = f })
      (λ s. (((((s.smaller, s.within), s.unequal), s.most), s.least), s.exact))
      (
      decides_equal l.kept (min most_entries l.differing)
      also decides_at_most l.differing l.readings
      also decides_unequal
      also decides_most
      also decides_at_most l.differing (sum_to (count_at l) most_outputs)
      also decides_if (decides_at_most l.differing most_entries) decides_exact
      )

-- a log that is not refused is sound, and its readings are not at their most
pub record Taken (l : Log) : Type 0 where
  pub is : Sound l
  pub below : l.readings ≡ most_readings → ⊥

pub taken : (l : Log) → refuses l ≡ false → Taken l
taken l e =
    let p = or_parts (not (sound l)) (eqb l.readings most_readings) e in
    record { is = (decides_sound l).holds (not-false _ p.0); below = eqb-false _ _ p.1 }

-- ---- the log after an update
pub refused_log : (l : Log) (r : Reading) → refuses l ≡ true → (update_of l r).log ≡ l
unfolding update_of
refused_log l r t = simp t

pub noted_log : (l : Log) (r : Reading) → refuses l ≡ false → (update_of l r).log ≡ noted l r
unfolding update_of
noted_log l r t = simp t

-- ---- a reading noted in a sound log
module _ (l : Log) (r : Reading) where
  noted_count : (j : ℕ) → j < most_outputs → count_at (noted l r) j ≡ count_at l j + one_if (differs_in j r)
  noted_count j h = list_at (λ i. count_at l i + one_if (differs_in i r)) most_outputs j h

  noted_most : Most l → Most (noted l r)
  noted_most s j h = omega (arith, noted_count j h, s j h, no_more r j)

  noted_least : Fits r → l.differing ≤ sum_to (count_at l) most_outputs → (noted l r).differing ≤ sum_to (count_at (noted l r)) most_outputs
  noted_least w s = omega (arith, s, some_output r w, sum_plus (count_at l) (λ j. one_if (differs_in j r)) (count_at (noted l r)) most_outputs noted_count)

  module _ (e : length l.entries ≡ most_entries) (s : Sound l) where
    -- where it is stored, it is kept behind the others
    stored_kept : stores l r ≡ true → l.kept < most_entries → kept_of (noted l r) ≡ kept_of l ++ r ∷ []
    stored_kept t room = simp t (rw add-one (take-suc-set l.entries l.kept r (omega (arith, e))))

    stored_unequal : differs r ≡ true → l.kept < most_entries → (i : ℕ) → i < l.kept + 1 → differs (get_or (set l.entries l.kept r) i blank) ≡ true
    stored_unequal d room = below_more (λ i. differs (get_or (set l.entries l.kept r) i blank) ≡ true) l.kept
        (λ i h. rw (get_or-set_other l.entries l.kept i r blank (λ z. omega (arith, z))) (s.unequal i h))
        (rw (get_or-set_same l.entries l.kept r blank (omega (arith, e))) d)

    noted_sound : Fits r → (d k : Bool) → differs r ≡ d → ltb l.kept most_entries ≡ k → Sound (noted l r)
    noted_sound w false k ed ek = record {
      smaller = simp ed (omega (arith, s.smaller));
      within = simp ed (omega (arith, s.within));
      unequal = simp (ed, add-zero) s.unequal;
      most = noted_most s.most;
      least = noted_least w s.least;
      exact = simp (ed, add-zero) (λ h j q. omega (arith, noted_count j q, no_more r j, ap one_if ed, s.exact h j q));
    }
    noted_sound w true false ed ek = record {
      smaller = simp (ed, ek) (omega (arith, s.smaller, ltb-false l.kept most_entries ek));
      within = simp ed (omega (arith, s.within));
      unequal = simp (ed, ek, add-zero) s.unequal;
      most = noted_most s.most;
      least = noted_least w s.least;
      exact = simp ed (λ h. absurd (omega (arith, s.smaller, ltb-false l.kept most_entries ek)));
    }
    noted_sound w true true ed ek = let room = ltb-true l.kept most_entries ek in record {
      smaller = simp (ed, ek) (omega (arith, s.smaller));
      within = simp ed (omega (arith, s.within));
      unequal = simp (ed, ek) (stored_unequal ed room);
      most = noted_most s.most;
      least = noted_least w s.least;
      exact = λ h j q. noted_count j q ∙ ap (λ n. n + one_if (differs_in j r)) (s.exact (omega (arith, h)) j q) ∙ sym (ap (λ ks. times ks j) (stored_kept (simp (ed, ek)) room) ∙ count_snoc (differs_in j) (kept_of l) r);
    }

kept_by : (l : Log) (r : Reading) → length l.entries ≡ most_entries → Fits r → sound l ≡ true → (t : Bool) → refuses l ≡ t → sound (update_of l r).log ≡ true
kept_by l r e w p true t = rw (refused_log l r t) p
kept_by l r e w p false t = rw (noted_log l r t) (decides_is (decides_sound (noted l r)) (noted_sound l r e ((decides_sound l).holds p) w (differs r) (ltb l.kept most_entries) refl refl))

-- a sound log of 32 entries stays sound, with words of 16 outputs
pub sound_kept : (l : Log) (r : Reading) → length l.entries ≡ most_entries → Fits r → sound l ≡ true → sound (update_of l r).log ≡ true
sound_kept l r e w p = kept_by l r e w p (refuses l) refl
