-- Lists of weights and parents tell the run to each couple, and its two counts: they are complete exactly if each weight is that of the
-- run to its couple and each parent the couple before its last change. Document 01's ranks are the weights of runs without multiple changes.
use mathlib.Core.Path.{◌≡◌, refl, sym, ap, subst, ◌∙◌}
use mathlib.Core.Logic.{◌⊎◌, ⊎_elim, inl, inr}
use mathlib.Core.List.{List, [], ◌∷◌}
use Prim.Native.Nat.{ℕ, zero, suc, ◌+◌, ◌*◌, ◌/◌, ◌%◌, ◌≤◌, ◌<◌}
use native.Mathlib.Nat.{le_refl, div-add-mod', mul-le-mul_right}
use native.Mathlib.Omega.{arith}
use lib.ListN.{length, get_or}
use Rattle.machine.specs.Limits.{most_couples}
use Rattle.machine.specs.Runs.{Machine, size, couples, Sound, Marked, Rank}
use Rattle.machine.specs.Shortest.{rests, RunTo}
use Rattle.machine.specs.inner.Trails.{Steps, Trail}
use Rattle.machine.specs.inner.Model.{followed}
use Rattle.machine.proofs.Order.{equal_or}
use Rattle.machine.proofs.Trails.{along, trail_run}
use Rattle.machine.proofs.Exists.{trail_below}
use Rattle.machine.proofs.Small.{run_to_small}
use Rattle.several.specs.Several.{singly, multiples, MultiRunTo}
use Rattle.several.specs.Weights.{extra, unweighed, WeightOrNone, first_of, ParentOrNone}
use Rattle.several.specs.inner.Lightest.{Lightest, Parent, Complete}
use Rattle.several.proofs.Along.{some_trail}
use Rattle.several.proofs.Weights.{Best, best_start, best_step, lightest_exists, parent_exists}
use Rattle.several.proofs.Runs.{multi_trail, multi_unique, lightest_few, lightest_changes, nearer, best_multi, best_exists, followed_multi, multi_counts, multi_small, lightest_small}
use Rattle.several.proofs.Single.{singly_sound, visitor_of, multi_run, none_multiple}

-- the lightest trail to couple c, given by its weight, has r changes
pub record Away (m : Machine) (c r : ℕ) : Type 0 where
  pub weighs : ℕ
  pub lightest : Lightest m extra c weighs
  pub changes : length lightest.path ≡ r

-- without changes it is a start
pub away_starts : {m : Machine} {c : ℕ} → Away m c 0 → Trail m c []
away_starts {m} {c} x = go x.lightest.path x.lightest.trail x.changes
  where
    go : (ps : List ℕ) → Trail m c ps → length ps ≡ 0 → Trail m c []
    go [] t e = t
    go (p ∷ ps) t e = absurd (omega arith)

-- the changes of document 01's run are the rank of its couple
pub rank_of_lem : {m : Machine} {c r : ℕ} {vs : List ℕ} → RunTo m c vs → length vs ≡ suc r → Rank m c r
rank_of_lem {vs = vs} x l = record { some = vs; visitor = x.visitor; changes = l; fewest = λ ws v. rw (← l) (x.fewest ws v) }

module _ {m : Machine} (ok : Sound m) (fits : couples m ≤ most_couples) where
  few : couples m ≤ extra
  few = omega arith

  -- the resting couples of the run to a couple are its least trail
  rests_are : {c k : ℕ} {vs ps : List ℕ} → MultiRunTo m c vs → Lightest m extra c k → Best m extra c k ps → rests m vs ≡ ps
  rests_are {c} {vs = vs} {ps} x y z = ap (rests m) (multi_unique ok c vs (along m ps c) x (best_multi ok extra few ps y z)) ∙ (trail_run c ps z.trail).1

  -- a weight is that of the run
  weight_of_lem : {c k : ℕ} {vs : List ℕ} → Lightest m extra c k → MultiRunTo m c vs → suc k ≡ multiples m vs * extra + length vs
  weight_of_lem {c} {k} y x =
      let (a, b) = multi_counts ok extra few (omega arith) y x in
      omega (arith, div-add-mod' k extra, ap (λ (n : ℕ). n * extra) a)

  lightest_of : {c : ℕ} {vs : List ℕ} → MultiRunTo m c vs → (k : ℕ) × Lightest m extra c k
  lightest_of {c} {vs} x = let (ps, t, _, _) = some_trail ok c vs x.visitor in lightest_exists m extra ok c ps t

  module _ (R P : List ℕ) where
    module _ (all : Complete m extra unweighed R P) where
      pub weight_listed : (c : ℕ) → c < couples m → WeightOrNone m c (get_or R c 0)
      weight_listed c l = ⊎_elim
          (λ x. let y = followed_multi ok extra few (λ d. get_or P d 0) all.parent (get_or R c 0) c x.0 in inl (_, y, weight_of_lem x.0 y))
          inr
          (all.weight c l)

      pub parent_listed : (c : ℕ) → c < couples m → ((get_or R c 0 ≡ 0) ⊎ (get_or R c 0 ≡ unweighed) → get_or P c 0 ≡ 0) → ParentOrNone m c (get_or P c 0)
      parent_listed c l orphan = ⊎_elim
          (λ x. record { parent = λ vs y. first (get_or R c 0) refl x.0 y; none = λ n. absurd (n (along m x.0.path c, (trail_run c x.0.path x.0.trail).0)) })
          (λ x. record { parent = λ vs y. absurd (x.1 (vs, y.visitor)); none = λ n. orphan (inr x.0) })
          (all.weight c l)
        where
          first : (k : ℕ) → get_or R c 0 ≡ k → Lightest m extra c k → {vs : List ℕ} → MultiRunTo m c vs → get_or P c 0 ≡ first_of (rests m vs)
          first zero e y x = orphan (inl e) ∙ sym (ap first_of (rests_are x y (best_start m extra y)))
          first (suc k) e y x =
              let p = all.parent k c y in
              let (ps, z) = best_exists ok extra (suc p.before.earlier) p.before.earlier (get_or P c 0) (le_refl _) p.before.lightest in
              sym (ap first_of (rests_are x y (best_step m extra y p z)))

    module _ (weights : (c : ℕ) → c < couples m → WeightOrNone m c (get_or R c 0)) (parents : (c : ℕ) → c < couples m → ParentOrNone m c (get_or P c 0)) where
      listed_complete : Complete m extra unweighed R P
      listed_complete = record { weight = λ c l. ⊎_elim (λ (vs, x, e). weight c x e) inr (weights c l); parent = parent }
        where
          weight : (c : ℕ) {vs : List ℕ} → MultiRunTo m c vs → suc (get_or R c 0) ≡ multiples m vs * extra + length vs
              → (Lightest m extra c (get_or R c 0) × (get_or R c 0 < unweighed)) ⊎ ((get_or R c 0 ≡ unweighed) × (Marked m c → ⊥))
          weight c x e =
              let (k, y) = lightest_of x in
              let f : k ≡ get_or R c 0 = omega (arith, weight_of_lem y x) in
              inl (subst (Lightest m extra c) f y, omega (arith, lightest_small ok extra few y, mul-le-mul_right extra fits))

          parent : (j c : ℕ) → Lightest m extra c (suc j) → Parent m extra (suc j) c (get_or P c 0)
          parent j c y =
              let (p, z) = parent_exists m extra ok y in
              let (ps, b) = best_exists ok extra (suc z.before.earlier) z.before.earlier p (le_refl _) z.before.lightest in
              let x = best_step m extra y z b in
              let r = best_multi ok extra few (p ∷ ps) y x in
              let e : p ≡ get_or P c 0 = sym ((parents c (trail_below ok c (p ∷ ps) x.trail)).parent _ r ∙ ap first_of (rests_are r y x)) in
              subst (Parent m extra (suc j) c) e z

      -- no run visits a couple without a weight
      pub listed_none : (c : ℕ) → c < couples m → get_or R c 0 ≡ unweighed → Marked m c → ⊥
      listed_none c l e = ⊎_elim (λ x. absurd (omega (arith, x.1))) (λ x. x.1) (listed_complete.weight c l)

      module _ (c : ℕ) (l : c < couples m) (n : get_or R c 0 ≡ unweighed → ⊥) where
        weighed : Lightest m extra c (get_or R c 0)
        weighed = ⊎_elim (λ x. x.0) (λ x. absurd (n x.0)) (listed_complete.weight c l)

        -- parents lead back from a couple to the start of the run to it
        pub listed_run : MultiRunTo m c (followed (size m) (λ d. get_or P d 0) (suc (get_or R c 0 % extra)) c [])
        listed_run = followed_multi ok extra few (λ d. get_or P d 0) listed_complete.parent (get_or R c 0) c weighed

        -- whose multiple changes its weight tells
        pub listed_multiples : multiples m (followed (size m) (λ d. get_or P d 0) (suc (get_or R c 0 % extra)) c []) ≡ get_or R c 0 / extra
        listed_multiples = (multi_counts ok extra few (omega arith) weighed listed_run).0

        -- it has fewer changes than there are couples
        pub listed_short : get_or R c 0 % extra < couples m
        listed_short = omega (arith, lightest_changes ok extra few weighed, lightest_few ok extra few weighed weighed.path weighed.trail weighed.weighs)

        pub listed_away : Away m c (get_or R c 0 % extra)
        listed_away = record { weighs = get_or R c 0; lightest = weighed; changes = sym (lightest_changes ok extra few weighed) }

      -- the parent is one change nearer to the start
      pub away_back : (c r : ℕ) → Away m c (suc r) → Steps m (get_or P c 0) c × Away m (get_or P c 0) r
      away_back c r x = go x.weighs x.lightest x.changes
        where
          go : (k : ℕ) (y : Lightest m extra c k) → length y.path ≡ suc r → Steps m (get_or P c 0) c × Away m (get_or P c 0) r
          go zero y e = absurd (omega (arith, lightest_changes ok extra few y))
          go (suc k) y e =
              let b = (listed_complete.parent k c y).before in
              (b.steps, record { weighs = b.earlier; lightest = b.lightest; changes = nearer ok extra few y b e })

  -- a parent is a couple
  pub parent_below : {c x p : ℕ} → c < couples m → WeightOrNone m c x → ParentOrNone m c p → p < couples m
  parent_below {c} l (inl (vs, y, e)) z = rw (z.parent vs y) (go (rests m vs) (multi_trail ok y).0)
    where
      go : (ps : List ℕ) → Trail m c ps → first_of ps < couples m
      go [] t = omega arith
      go (p ∷ ps) t = trail_below ok p ps t.0
  parent_below l (inr (e, n)) z = omega (arith, z.none n)

  -- document 01's rank is the weight of a run without multiple changes
  pub weight_rank : {c x : ℕ} → WeightOrNone m c x → ((x < couples m) × Rank (singly m) c x) ⊎ ((extra ≤ x) × (Marked (singly m) c → ⊥))
  weight_rank {c} {x} (inl (vs, y, e)) = ⊎_elim
      (λ z. let r = multi_run ok ((none_multiple ok y).0 z) y in
      let l : length vs ≡ suc x = omega (arith, ap (λ (n : ℕ). n * extra) z) in
      inl (omega (arith, run_to_small (singly_sound ok) r), rank_of_lem r l))
      (λ (z : multiples m vs ≡ 0 → ⊥). let h : 1 ≤ multiples m vs = omega arith in
      inr (omega (arith, mul-le-mul_right extra h, (multi_small ok y).1), λ k. z ((none_multiple ok y).1 k)))
      (equal_or (multiples m vs) 0)
  weight_rank (inr (e, n)) = inr (omega arith, λ (vs, v). n (vs, visitor_of m v))
