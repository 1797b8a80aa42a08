-- Weights: a change weighs 1, a multiple change W more. The least of the lightest trails to a couple is found by following least parents,
-- by induction on the weight; some trail is the lightest, since those of a weight are searched for.
use mathlib.Core.Path.{◌≡◌, refl, sym, ap, subst, ◌∙◌}
use mathlib.Core.Logic.{⊎_elim, inl, inr}
use mathlib.Core.List.{List, [], ◌∷◌}
use Prim.Native.Nat.{ℕ, zero, suc, ◌+◌, ◌*◌, ◌-◌, ◌%◌, ◌≤◌, ◌<◌}
use native.Mathlib.Nat.{le_refl}
use native.Mathlib.Omega.{arith}
use lib.ListN.{length}
use Rattle.machine.specs.Lists.{AtMost}
use Rattle.machine.specs.Runs.{Machine, size, couples, couple, Sound, Starts}
use Rattle.machine.specs.inner.Trails.{Steps, Trail}
use Rattle.machine.proofs.Order.{below_or, equal_or}
use Rattle.machine.proofs.Couples.{couple_setting}
use Rattle.verdict.proofs.Tests.{decides_or}
use Rattle.machine.proofs.Tests.{decides_starts, decides_steps}
use Rattle.machine.proofs.Exists.{Or, both, by, search_below, trail_below}
use Rattle.several.specs.inner.Lightest.{multiples_along, step, weight, Lightest, Before, Parent}

module _ (m : Machine) (W : ℕ) where
  pub weight_is : (c : ℕ) (ps : List ℕ) → weight m W c ps ≡ multiples_along m c ps * W + length ps
  weight_is c [] = omega arith
  weight_is c (p ∷ ps) = omega (arith, weight_is p ps)

  -- the least trail of weight k
  pub record Best (c k : ℕ) (ps : List ℕ) : Type 0 where
    pub trail : Trail m c ps
    pub weighs : weight m W c ps ≡ k
    pub least : (qs : List ℕ) → Trail m c qs → weight m W c qs ≡ k → AtMost ps qs

  pub lightest_unique : {c k l : ℕ} → Lightest m W c k → Lightest m W c l → k ≡ l
  lightest_unique x y = omega (arith, x.fewest y.path y.trail, y.fewest x.path x.trail, x.weighs, y.weighs)

  -- a weight is that of a start, or there is a couple before
  before_lightest : {c q k : ℕ} (qs : List ℕ) → Lightest m W c k → Trail m q qs → Steps m q c → weight m W q qs + step m W q c ≡ k → Lightest m W q (weight m W q qs)
  before_lightest {c} {q} qs x t y e = record { path = qs; trail = t; weighs = refl; fewest = λ ps u. omega (arith, x.fewest (q ∷ ps) (u, y)) }

  trail_before : {c q k : ℕ} (qs : List ℕ) → Lightest m W c k → Trail m q qs → Steps m q c → weight m W q qs + step m W q c ≡ k → Before m W k c q
  trail_before qs x t y e = record { steps = y; earlier = weight m W _ qs; sum = e; lightest = before_lightest qs x t y e }

  pub best_start : {c : ℕ} → Lightest m W c 0 → Best c 0 []
  best_start {c} x = record { trail = go x.path x.trail x.weighs; weighs = refl; least = λ qs u e. tt }
    where
      go : (ps : List ℕ) → Trail m c ps → weight m W c ps ≡ 0 → Trail m c []
      go [] t e = t
      go (p ∷ ps) t e = absurd (omega arith)

  pub best_step : {c p k : ℕ} {ps : List ℕ} → Lightest m W c k → (y : Parent m W k c p) → Best p y.before.earlier ps → Best c k (p ∷ ps)
  best_step {c} {p} {k} {ps} x y z = record { trail = (z.trail, y.before.steps); weighs = omega (arith, z.weighs, y.before.sum); least = least }
    where
      least : (qs : List ℕ) → Trail m c qs → weight m W c qs ≡ k → AtMost (p ∷ ps) qs
      least [] t e = absurd (omega (arith, y.before.sum))
      least (q ∷ qs) t e =
          let l : p ≤ q = y.least q (trail_before qs x t.0 t.1 e) in
          ⊎_elim
          (λ f. inr (f, z.least qs (subst (λ (d : ℕ). Trail m d qs) (sym f) t.0) (same f)))
          (λ (f : p ≡ q → ⊥). inl (omega arith))
          (equal_or p q)
        where
          same : p ≡ q → weight m W p qs ≡ y.before.earlier
          same f =
              let g : weight m W p qs + step m W p c ≡ k = subst (λ (d : ℕ). weight m W d qs + step m W d c ≡ k) (sym f) e in
              omega (arith, y.before.sum)

  -- a trail to couple c of weight k
  abbrev pub Hit : ℕ → ℕ → Type 0
  Hit k c = (ps : List ℕ) × Trail m c ps × (weight m W c ps ≡ k)

  module _ (ok : Sound m) where
    hit_start : (c : ℕ) → Or (Hit 0 c)
    hit_start c = by
        (λ x. ([], (c % size m, x.0, x.1), refl))
        (λ x. at_start x.0 x.1 x.2)
        (both (decides_or (decides_starts m (c % size m))) (equal_or c (couple m m.initial (c % size m))))
      where
        at_start : (ps : List ℕ) → Trail m c ps → weight m W c ps ≡ 0 → Starts m (c % size m) × (c ≡ couple m m.initial (c % size m))
        at_start [] t e =
            let f : t.0 ≡ c % size m = sym (ap (λ (y : ℕ). y % size m) t.2 ∙ couple_setting m _ t.1.below) in
            rw (← f) (t.1, t.2)
        at_start (p ∷ ps) t e = absurd (omega arith)

    -- couple p, one change before a weight of suc k
    abbrev Last : ℕ → ℕ → ℕ → Type 0
    Last k c p = (step m W p c ≤ suc k) × (Hit (suc k - step m W p c) p × Steps m p c)

    last_or : (k c : ℕ) → ((j p : ℕ) → j ≤ k → Or (Hit j p)) → (p : ℕ) → Or (Last k c p)
    last_or k c hit p = both at_most (both (hit (suc k - step m W p c) p (omega arith)) (decides_or (decides_steps m p c)))
      where
        at_most : Or (step m W p c ≤ suc k)
        at_most = ⊎_elim (λ h. inr (λ g. omega arith)) inl (below_or (suc k) (step m W p c))

    never_last : {k c : ℕ} → ((p : ℕ) → p < couples m → Last k c p → ⊥) → (ps : List ℕ) → Trail m c ps → weight m W c ps ≡ suc k → ⊥
    never_last none [] t e = omega arith
    never_last none (p ∷ ps) t e = none p (trail_below ok p ps t.0) (omega arith, ((ps, t.0, omega arith), t.1))

    hit_below : (f k c : ℕ) → k < f → Or (Hit k c)
    hit_below zero k c l = absurd (omega arith)
    hit_below (suc f) zero c l = hit_start c
    hit_below (suc f) (suc k) c l = ⊎_elim
        (λ x. let (g, ((ps, t, e), s)) = x.found in inl (x.place ∷ ps, (t, s), omega arith))
        (λ none. inr (λ x. never_last none x.0 x.1 x.2))
        (search_below (Last k c) (last_or k c (λ j p h. hit_below f j p (omega arith))) (couples m))

    pub hit_or : (k c : ℕ) → Or (Hit k c)
    hit_or k c = hit_below (suc k) k c (le_refl _)

    -- what has a trail has a lightest one
    pub lightest_exists : (c : ℕ) (ps : List ℕ) → Trail m c ps → (k : ℕ) × Lightest m W c k
    lightest_exists c ps t = ⊎_elim
        (λ f. let (qs, u, e) = f.found in (
          f.place,
          record { path = qs; trail = u; weighs = e; fewest = λ rs y. ⊎_elim (λ h. absurd (f.before _ h (rs, y, refl))) (λ h. h) (below_or (weight m W c rs) f.place) },
        ))
        (λ none. absurd (none (weight m W c ps) (le_refl _) (ps, t, refl)))
        (search_below (λ k. Hit k c) (λ k. hit_or k c) (suc (weight m W c ps)))

    before_below : {k c p : ℕ} → Before m W k c p → p < couples m
    before_below x = trail_below ok _ x.lightest.path x.lightest.trail

    -- what is no start has a parent
    pub parent_exists : {c k : ℕ} → Lightest m W c (suc k) → (p : ℕ) × Parent m W (suc k) c p
    parent_exists {c} {k} x = ⊎_elim
        (λ f. let (g, ((qs, u, e), s)) = f.found in (
          f.place,
          record {
            before = trail_before qs x u s (omega arith);
            least = λ q y. ⊎_elim (λ h. absurd (f.before q h (last y))) (λ h. h) (below_or q f.place);
          },
        ))
        (λ none. absurd (never_last none x.path x.trail x.weighs))
        (search_below (Last k c) (last_or k c (λ j p h. hit_or j p)) (couples m))
      where
        last : {q : ℕ} → Before m W (suc k) c q → Last k c q
        last {q} y = (omega (arith, y.sum), ((y.lightest.path, y.lightest.trail, omega (arith, y.sum, y.lightest.weighs)), y.steps))
