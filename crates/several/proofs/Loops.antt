-- A trail to a couple can be freed of loops: what is left has no more changes, no more multiple ones, and visits no resting couple twice,
-- so that it has fewer changes than there are couples.
use mathlib.Core.Path.{◌≡◌, refl, sym, ap, subst}
use mathlib.Core.Logic.{◌⊎◌, ⊎_elim, inl, inr}
use mathlib.Core.List.{List, [], ◌∷◌}
use Prim.Native.Nat.{ℕ, zero, suc, ◌≤◌, ◌<◌}
use native.Mathlib.Nat.{le_refl}
use native.Mathlib.Omega.{arith}
use lib.ListN.{length, get_or}
use Rattle.machine.specs.Lists.{In}
use Rattle.machine.specs.Runs.{Machine, couples, Sound}
use Rattle.machine.proofs.Order.{equal_or}
use Rattle.machine.specs.inner.Trails.{Trail}
use Rattle.machine.proofs.Exists.{trail_below}
use Rattle.machine.proofs.Small.{pigeons}
use Rattle.several.specs.inner.Lightest.{multiples_along}

abbrev Distinct : List ℕ → Type 0
Distinct [] = Unit {0}
Distinct (x ∷ xs) = (In x xs → ⊥) × Distinct xs

in_at : (xs : List ℕ) (i : ℕ) → i < length xs → In (get_or xs i 0) xs
in_at [] i l = absurd (omega arith)
in_at (x ∷ xs) zero l = inl refl
in_at (x ∷ xs) (suc i) l = inr (in_at xs i (omega arith))

distinct_at : (xs : List ℕ) → Distinct xs → (i j : ℕ) → i < length xs → j < length xs → get_or xs i 0 ≡ get_or xs j 0 → i ≡ j
distinct_at [] d i j l h e = absurd (omega arith)
distinct_at (x ∷ xs) d zero zero l h e = refl
distinct_at (x ∷ xs) d zero (suc j) l h e = absurd (d.0 (subst (λ (y : ℕ). In y xs) (sym e) (in_at xs j (omega arith))))
distinct_at (x ∷ xs) d (suc i) zero l h e = absurd (d.0 (subst (λ (y : ℕ). In y xs) e (in_at xs i (omega arith))))
distinct_at (x ∷ xs) d (suc i) (suc j) l h e = ap suc (distinct_at xs d.1 i j (omega arith) (omega arith) e)

in_or : (x : ℕ) (xs : List ℕ) → In x xs ⊎ (In x xs → ⊥)
in_or x [] = inr (λ i. i)
in_or x (y ∷ ys) = ⊎_elim (λ e. inl (inl e)) (λ n. ⊎_elim (λ i. inl (inr i)) (λ k. inr (⊎_elim n k)) (in_or x ys)) (equal_or x y)

module _ (m : Machine) where
  -- a trail to couple c of k changes at most, a multiple ones at most, without loops
  record Cut (c k a : ℕ) : Type 0 where
    path : List ℕ
    trail : Trail m c path
    shorter : length path ≤ k
    lighter : multiples_along m c path ≤ a
    distinct : Distinct (c ∷ path)

  -- back to the couple c along a trail that comes from it
  cut_back : (c p : ℕ) (ps : List ℕ) → Trail m p ps → Distinct (p ∷ ps) → In c (p ∷ ps) → Cut c (length ps) (multiples_along m p ps)
  cut_back c p [] t d i = ⊎_elim (λ e. subst (λ (x : ℕ). Cut x 0 0) (sym e) (record { path = []; trail = t; shorter = le_refl _; lighter = le_refl _; distinct = d })) absurd i
  cut_back c p (q ∷ qs) t d i = ⊎_elim
      (λ e. subst (λ (x : ℕ). Cut x (length (q ∷ qs)) (multiples_along m p (q ∷ qs))) (sym e) (record { path = q ∷ qs; trail = t; shorter = le_refl _; lighter = le_refl _; distinct = d }))
      (λ j. let x = cut_back c q qs t.0 d.1 j in
      record { path = x.path; trail = x.trail; shorter = omega (arith, x.shorter); lighter = omega (arith, x.lighter); distinct = x.distinct })
      i

  cut : (c : ℕ) (ps : List ℕ) → Trail m c ps → Cut c (length ps) (multiples_along m c ps)
  cut c [] t = record { path = []; trail = t; shorter = le_refl _; lighter = le_refl _; distinct = (λ i. i, tt) }
  cut c (p ∷ ps) t =
      let x = cut p ps t.0 in
      ⊎_elim
      (λ i. let y = cut_back c p x.path x.trail x.distinct i in
      record { path = y.path; trail = y.trail; shorter = omega (arith, x.shorter, y.shorter); lighter = omega (arith, x.lighter, y.lighter); distinct = y.distinct })
      (λ n. record { path = p ∷ x.path; trail = (x.trail, t.1); shorter = omega (arith, x.shorter); lighter = omega (arith, x.lighter); distinct = (n, x.distinct) })
      (in_or c (p ∷ x.path))

-- a trail to couple c of k changes at most, a multiple ones at most, and fewer changes than there are couples
pub record Loopless (m : Machine) (c k a : ℕ) : Type 0 where
  pub path : List ℕ
  pub trail : Trail m c path
  pub shorter : length path ≤ k
  pub lighter : multiples_along m c path ≤ a
  pub few : length path < couples m

module _ {m : Machine} (ok : Sound m) where
  all_below : (c : ℕ) (ps : List ℕ) → Trail m c ps → (i : ℕ) → i < length (c ∷ ps) → get_or (c ∷ ps) i 0 < couples m
  all_below c ps t zero l = trail_below ok c ps t
  all_below c [] t (suc i) l = absurd (omega arith)
  all_below c (p ∷ ps) t (suc i) l = all_below p ps t.0 i (omega arith)

  pub loopless : (c : ℕ) (ps : List ℕ) → Trail m c ps → Loopless m c (length ps) (multiples_along m c ps)
  loopless c ps t =
      let x = cut m c ps t in
      record {
        path = x.path;
        trail = x.trail;
        shorter = x.shorter;
        lighter = x.lighter;
        few = pigeons (couples m) (suc (length x.path)) (λ i. get_or (c ∷ x.path) i 0) (all_below c x.path x.trail) (distinct_at (c ∷ x.path) x.distinct);
      }
