-- Every marked couple has a rank and a run to it: whether a run with exactly k changes visits it is decided by recursion on k, and the
-- least such k is searched for.
use mathlib.Core.Path.{◌≡◌, refl, sym, ap, subst, ◌∙◌}
use mathlib.Core.Logic.{◌⊎◌, ⊎_elim, inl, inr}
use mathlib.Core.List.{List, [], ◌∷◌}
use Prim.Native.Nat.{ℕ, zero, suc, ◌/◌, ◌%◌, ◌<◌}
use native.Mathlib.Nat.{div-lt_iff_lt-mul, le_refl}
use native.Mathlib.Omega.{arith}
use lib.ListN.{length}
use lib.Pow.{pow_pos, high}
use lib.Arith.{digits_lt}
use Rattle.machine.specs.Runs.{Machine, size, couples, couple, Sound, Starts, Marked, Rank}
use Rattle.machine.specs.Shortest.{RunTo}
use Rattle.machine.specs.inner.Trails.{Steps, Parent, Trail}
use Rattle.machine.proofs.Order.{below_or, equal_or}
use Rattle.machine.proofs.Couples.{couple_setting, moves}
use Rattle.verdict.proofs.Tests.{decides_or}
use Rattle.machine.proofs.Tests.{decides_starts, decides_steps}
use Rattle.machine.proofs.Trails.{along}
use Rattle.machine.proofs.Shortest.{some_trail, trail_rank, rank_trail, before_rank, Best, best_start, best_step, best_run}

-- P holds or does not
abbrev pub Or : Type 0 → Type 0
Or P = P ⊎ (P → ⊥)

pub both : {P Q : Type 0} → Or P → Or Q → Or (P × Q)
both (inl p) (inl q) = inl (p, q)
both (inl p) (inr q) = inr (λ x. q x.1)
both (inr p) q = inr (λ x. p x.0)

pub by : {P Q : Type 0} → (P → Q) → (Q → P) → Or P → Or Q
by f g (inl p) = inl (f p)
by f g (inr p) = inr (λ q. p (g q))

pub record First (P : ℕ → Type 0) (t : ℕ) : Type 0 where
  pub place : ℕ
  pub within : place < t
  pub found : P place
  pub before : (c : ℕ) → c < place → P c → ⊥

-- the least place below t at which P holds
pub search_below : (P : ℕ → Type 0) → ((c : ℕ) → Or (P c)) → (t : ℕ) → First P t ⊎ ((c : ℕ) → c < t → P c → ⊥)
search_below P dec zero = inr (λ c h. absurd (omega arith))
search_below P dec (suc t) = ⊎_elim
    (λ f. inl (record { place = f.place; within = omega (arith, f.within); found = f.found; before = f.before }))
    (λ none. ⊎_elim
    (λ p. inl (record { place = t; within = le_refl _; found = p; before = none }))
    (λ p. inr (λ c h x. ⊎_elim (λ e. p (subst P e x)) (λ (e : c ≡ t → ⊥). none c (omega arith) x) (equal_or c t)))
    (dec t))
    (search_below P dec t)

module _ {m : Machine} (ok : Sound m) where
  -- a couple that is visited is a couple
  pub trail_below : (c : ℕ) (ps : List ℕ) → Trail m c ps → c < couples m
  trail_below c [] t = rw t.2 (digits_lt ok.begins t.1.below)
  trail_below c (p ∷ ps) t =
      let x = t.1 in
      let l : p / size m < m.states = (div-lt_iff_lt-mul (pow_pos m.inputs)).1 (trail_below p ps t.0) in
      let k : x.state < m.states = rw (ap (λ (y : ℕ). y / size m) x.here ∙ high x.state m.inputs x.below) at l in
      ⊎_elim (λ e. rw e (digits_lt k x.change.below)) (λ e. rw e (digits_lt (moves ok _ _ k x.change.below) x.change.below)) x.visits

  pub marked_below : {c : ℕ} → Marked m c → c < couples m
  marked_below {c} (vs, x) = let (ps, t, l) = some_trail ok c vs x in trail_below c ps t

  -- visited at the last of k changes
  abbrev Hit : ℕ → ℕ → Type 0
  Hit k c = (ps : List ℕ) × Trail m c ps × (length ps ≡ k)

  hit_or : (k c : ℕ) → Or (Hit k c)
  hit_or zero c = by
      (λ x. ([], (c % size m, x.0, x.1), refl))
      (λ x. at_start x.0 x.1 x.2)
      (both (decides_or (decides_starts m (c % size m))) (equal_or c (couple m m.initial (c % size m))))
    where
      at_start : (ps : List ℕ) → Trail m c ps → length ps ≡ 0 → Starts m (c % size m) × (c ≡ couple m m.initial (c % size m))
      at_start [] t e =
          let f : t.0 ≡ c % size m = sym (ap (λ (y : ℕ). y % size m) t.2 ∙ couple_setting m _ t.1.below) in
          rw (← f) (t.1, t.2)
      at_start (p ∷ ps) t e = absurd (omega arith)
  hit_or (suc k) c = ⊎_elim
      (λ f. let (ps, t, e) = f.found.0 in inl (f.place ∷ ps, (t, f.found.1), omega arith))
      (λ none. inr (λ x. by_step none x.0 x.1 x.2))
      (search_below (λ p. Hit k p × Steps m p c) (λ p. both (hit_or k p) (decides_or (decides_steps m p c))) (couples m))
    where
      by_step : ((p : ℕ) → p < couples m → Hit k p × Steps m p c → ⊥) → (ps : List ℕ) → Trail m c ps → length ps ≡ suc k → ⊥
      by_step none [] t e = omega arith
      by_step none (p ∷ ps) t e = none p (trail_below p ps t.0) ((ps, t.0, omega arith), t.1)

  pub marked_rank : {c : ℕ} → Marked m c → (r : ℕ) × Rank m c r
  marked_rank {c} (vs, x) =
      let (ps, t, l) = some_trail ok c vs x in
      ⊎_elim
      (λ f. let (qs, u, e) = f.found in (f.place, trail_rank ok qs u e (λ rs y. ⊎_elim (λ h. absurd (f.before _ h (rs, y, refl))) (λ h. h) (below_or (length rs) f.place))))
      (λ none. absurd (none (length ps) (le_refl _) (ps, t, refl)))
      (search_below (λ k. Hit k c) (λ k. hit_or k c) (suc (length ps)))

  pub parent_exists : {r c : ℕ} → Rank m c (suc r) → (p : ℕ) × Parent m r c p
  parent_exists {r} {c} x =
      let (ps, t, l) = some_trail ok c x.some x.visitor in
      ⊎_elim
      (λ f. let (qs, u, e) = f.found.0 in (
        f.place,
        record {
          steps = f.found.1;
          rank = before_rank ok qs x u f.found.1 e;
          least = λ q y z. ⊎_elim (λ h. absurd (f.before q h (hit z, y))) (λ h. h) (below_or q f.place);
        },
      ))
      (λ none. absurd (never none ps t (omega (arith, rank_trail ok x ps t, x.changes))))
      (search_below (λ p. Hit r p × Steps m p c) (λ p. both (hit_or r p) (decides_or (decides_steps m p c))) (couples m))
    where
      hit : {q : ℕ} → Rank m q r → Hit r q
      hit {q} z = let (ps, t, l) = some_trail ok q z.some z.visitor in (ps, t, omega (arith, rank_trail ok z ps t, z.changes))

      never : ((p : ℕ) → p < couples m → Hit r p × Steps m p c → ⊥) → (ps : List ℕ) → Trail m c ps → length ps ≡ suc r → ⊥
      never none [] t e = omega arith
      never none (p ∷ ps) t e = none p (trail_below p ps t.0) ((ps, t.0, omega arith), t.1)

  best_exists : (r c : ℕ) → Rank m c r → (ps : List ℕ) × Best ok c r ps
  best_exists zero c x = ([], best_start ok x)
  best_exists (suc r) c x =
      let (p, y) = parent_exists x in
      let (ps, z) = best_exists r p y.rank in
      (p ∷ ps, best_step ok x y z)

  -- every marked couple has a run to it
  pub run_to_exists : (c : ℕ) → Marked m c → (vs : List ℕ) × RunTo m c vs
  run_to_exists c x =
      let (r, y) = marked_rank x in
      let (ps, z) = best_exists r c y in
      (along m ps c, best_run ok ps y z)
