-- A rank is below the number of couples: the resting couples of a shortest run all differ.
use mathlib.Core.Path.{◌≡◌, refl, sym, subst, ◌∙◌}
use mathlib.Core.Logic.{◌⊎◌, ⊎_elim, inl, inr}
use mathlib.Core.List.{List, [], ◌∷◌}
use mathlib.Core.Bool.{cond}
use Prim.Native.Nat.{ℕ, zero, suc, ◌-◌, ◌≤◌, ◌<◌, zero-le}
use native.Mathlib.Omega.{arith}
use lib.ListN.{length, get_or}
use lib.Dec.{eqb}
use borrow.Author.Tests.{eq-eqb, ne_eqb}
use Rattle.machine.specs.Runs.{Machine, couples, Sound, Rank}
use Rattle.machine.specs.Shortest.{RunTo}
use Rattle.machine.proofs.Order.{equal_or}
use Rattle.machine.specs.inner.Trails.{Trail}
use Rattle.machine.proofs.Shortest.{some_trail, rank_trail, before_rank}
use Rattle.machine.proofs.Exists.{marked_below, marked_rank}

-- k different numbers below t are at most t
pub pigeons : (t k : ℕ) (f : ℕ → ℕ) → ((i : ℕ) → i < k → f i < t) → ((i j : ℕ) → i < k → j < k → f i ≡ f j → i ≡ j) → k ≤ t
pigeons zero zero f below one = zero-le
pigeons zero (suc k) f below one = absurd (omega (arith, below 0 (omega arith)))
pigeons (suc t) zero f below one = zero-le
pigeons (suc t) (suc k) f below one = omega (arith, pigeons t k moved moved_below moved_one)
  where
    moved : ℕ → ℕ
    moved i = cond (eqb (f i) t) (f k) (f i)

    is : (i : ℕ) → i < k → ((f i ≡ t) × (moved i ≡ f k)) ⊎ ((f i ≡ t → ⊥) × (moved i ≡ f i))
    is i l = ⊎_elim (λ e. inl (e, rw (eq-eqb (f i) t e) refl)) (λ e. inr (e, rw (ne_eqb (f i) t e) refl)) (equal_or (f i) t)

    last : (i : ℕ) → i < k → f i ≡ f k → ⊥
    last i l e = omega (arith, one i k (omega arith) (omega arith) e)

    moved_below : (i : ℕ) → i < k → moved i < t
    moved_below i l = ⊎_elim
        (λ x. let n : f k ≡ t → ⊥ = λ e. last i l (x.0 ∙ sym e) in omega (arith, x.1, below k (omega arith)))
        (λ x. let n : f i ≡ t → ⊥ = x.0 in omega (arith, x.1, below i (omega arith)))
        (is i l)

    moved_one : (i j : ℕ) → i < k → j < k → moved i ≡ moved j → i ≡ j
    moved_one i j l h e = ⊎_elim
        (λ x. ⊎_elim (λ y. one i j (omega arith) (omega arith) (x.0 ∙ sym y.0)) (λ y. absurd (last j h (sym y.1 ∙ sym e ∙ x.1))) (is j h))
        (λ x. ⊎_elim (λ y. absurd (last i l (sym x.1 ∙ e ∙ y.1))) (λ y. one i j (omega arith) (omega arith) (sym x.1 ∙ e ∙ y.1)) (is j h))
        (is i l)

pub rank_unique : {m : Machine} {c r k : ℕ} → Rank m c r → Rank m c k → r ≡ k
rank_unique x y = omega (arith, x.fewest _ y.visitor, y.fewest _ x.visitor, x.changes, y.changes)

module _ {m : Machine} (ok : Sound m) where
  -- the ranks along a trail
  pub ranks_along : (c : ℕ) (ps : List ℕ) → Trail m c ps → Rank m c (length ps) → (i : ℕ) → i ≤ length ps → Rank m (get_or (c ∷ ps) i 0) (length ps - i)
  ranks_along c ps t x zero l = subst (Rank m c) (omega arith) x
  ranks_along c [] t x (suc i) l = absurd (omega arith)
  ranks_along c (p ∷ ps) t x (suc i) l =
      subst (Rank m (get_or (p ∷ ps) i 0)) (omega arith) (ranks_along p ps t.0 (before_rank ok ps x t.0 t.1 refl) i (omega arith))

  pub rank_small : {c r : ℕ} → Rank m c r → r < couples m
  rank_small {c} {r} x =
      let (ps, t, l) = some_trail ok c x.some x.visitor in
      let e : length ps ≡ r = omega (arith, rank_trail ok x ps t, x.changes) in
      let along = ranks_along c ps t (subst (Rank m c) (sym e) x) in
      omega (
        arith,
        pigeons (couples m) (suc r) (λ i. get_or (c ∷ ps) i 0)
            (λ i h. let y = along i (omega arith) in marked_below ok (y.some, y.visitor))
            (λ i j h k q.
            let z : length ps - i ≡ length ps - j = rank_unique (along i (omega arith)) (subst (λ (d : ℕ). Rank m d (length ps - j)) (sym q) (along j (omega arith))) in
            omega arith),
      )

  -- the run to a couple has as many changes as its rank, and no more settings than there are couples
  pub run_to_rank : {c r : ℕ} {vs : List ℕ} → RunTo m c vs → Rank m c r → length vs ≡ suc r
  run_to_rank x y = omega (arith, x.fewest _ y.visitor, y.fewest _ x.visitor, y.changes)

  pub run_to_small : {c : ℕ} {vs : List ℕ} → RunTo m c vs → length vs ≤ couples m
  run_to_small {c} {vs} x = let (r, y) = marked_rank ok (vs, x.visitor) in omega (arith, run_to_rank x y, rank_small y)
