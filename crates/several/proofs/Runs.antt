-- The run to a couple where several inputs may change at once: it is one run, every couple that some run visits has it, and least parents
-- lead to it. With W no less than the number of couples it is the least of the lightest trails, since a lightest trail has no loops.
use mathlib.Core.Path.{◌≡◌, refl, sym, ap, subst, ◌∙◌}
use mathlib.Core.Logic.{⊎_elim}
use mathlib.Core.List.{List, [], ◌∷◌}
use mathlib.Core.Bool.{Bool, true, false}
use Prim.Native.Nat.{ℕ, zero, suc, ◌+◌, ◌*◌, ◌/◌, ◌%◌, ◌≤◌, ◌<◌, zero-le}
use native.Mathlib.Nat.{le_refl, mul-le-mul_right}
use native.Mathlib.Omega.{arith}
use lib.ListN.{length}
use lib.Dec.{eqb}
use lib.Arith.{digits_mod, digits_div}
use Rattle.machine.specs.Couples.{differing, one_unless}
use Rattle.machine.specs.Lists.{AtMost}
use Rattle.machine.specs.Runs.{Machine, size, couples, Sound, Visitor, Marked}
use Rattle.machine.specs.Shortest.{rests}
use Rattle.machine.specs.inner.Model.{followed}
use Rattle.machine.proofs.Order.{below_or}
use Rattle.machine.proofs.Couples.{same_couple}
use Rattle.machine.specs.inner.Trails.{Trail}
use Rattle.machine.proofs.Trails.{back, along, length_back, trail_run}
use Rattle.machine.proofs.Shortest.{at_most_antisym}
use Rattle.several.specs.Several.{multiples, MultiRunTo}
use Rattle.several.specs.inner.Lightest.{multiples_along, weight, Lightest, Before, Parent}
use Rattle.several.proofs.Along.{multiples_along_lem, some_trail, shortest_trail}
use Rattle.several.proofs.Loops.{loopless}
use Rattle.several.proofs.Weights.{weight_is, Best, best_start, best_step, lightest_exists, parent_exists}

one_unless_lem : (b : Bool) → one_unless b ≤ 1
one_unless_lem true = zero-le
one_unless_lem false = le_refl 1

-- multiple changes are changes
multiples_few : (m : Machine) (c : ℕ) (ps : List ℕ) → multiples_along m c ps ≤ length ps
multiples_few m c [] = le_refl _
multiples_few m c (p ∷ ps) = omega (arith, multiples_few m p ps, one_unless_lem (eqb (differing m.inputs (p % size m) (c % size m)) 1))

module _ {m : Machine} (ok : Sound m) where
  -- the run has a trail
  pub multi_trail : {c : ℕ} {vs : List ℕ} → MultiRunTo m c vs → Trail m c (rests m vs) × (vs ≡ along m (rests m vs) c) × (length vs ≡ suc (length (rests m vs)))
  multi_trail {c} {vs} x = shortest_trail ok c vs x.visitor (λ ws y l. x.fewest ws y (omega (arith, x.fewest_multiples ws y)))

  pub multi_unique : (c : ℕ) (vs ws : List ℕ) → MultiRunTo m c vs → MultiRunTo m c ws → vs ≡ ws
  multi_unique c vs ws f g =
      let a : multiples m ws ≡ multiples m vs = omega (arith, f.fewest_multiples ws g.visitor, g.fewest_multiples vs f.visitor) in
      let e : length ws ≡ length vs = omega (arith, f.fewest ws g.visitor a, g.fewest vs f.visitor (sym a)) in
      let same = at_most_antisym (rests m vs) (rests m ws) (f.least ws g.visitor a e) (g.least vs f.visitor (sym a) (sym e)) in
      (multi_trail f).1 ∙ ap (λ (ps : List ℕ). along m ps c) same ∙ sym (multi_trail g).1

  module _ (W : ℕ) (few : couples m ≤ W) where
    -- a trail of the least weight has fewer changes than there are couples
    pub lightest_few : {c k : ℕ} → Lightest m W c k → (ps : List ℕ) → Trail m c ps → weight m W c ps ≡ k → length ps < couples m
    lightest_few {c} x ps t e =
        let l = loopless ok c ps t in
        let h = mul-le-mul_right W l.lighter in
        omega (arith, l.few, l.shorter, x.fewest l.path l.trail, weight_is m W c ps, weight_is m W c l.path)

    -- so its weight tells both counts
    lightest_counts : {c k : ℕ} → Lightest m W c k → (ps qs : List ℕ) → Trail m c ps → Trail m c qs → weight m W c ps ≡ k → weight m W c qs ≡ k
        → (multiples_along m c ps ≡ multiples_along m c qs) × (length ps ≡ length qs)
    lightest_counts {c} x ps qs t u e f =
        same_couple W (multiples_along m c ps) (multiples_along m c qs)
        (omega (arith, lightest_few x ps t e)) (omega (arith, lightest_few x qs u f))
        (sym (weight_is m W c ps) ∙ e ∙ sym f ∙ weight_is m W c qs)

    -- the number of changes among them
    pub lightest_changes : {c k : ℕ} (x : Lightest m W c k) → k % W ≡ length x.path
    lightest_changes {c} x =
        ap (λ (j : ℕ). j % W) (sym x.weighs ∙ weight_is m W c x.path)
        ∙ digits_mod (multiples_along m c x.path) (omega (arith, lightest_few x x.path x.trail x.weighs))

    -- a couple before it is one change nearer to the start
    pub nearer : {b c k p : ℕ} (x : Lightest m W c k) (y : Before m W k c p) → length x.path ≡ suc b → length y.lightest.path ≡ b
    nearer {p = p} x y e =
        let z = y.lightest in
        let n = (lightest_counts x x.path (p ∷ z.path) x.trail (z.trail, y.steps) x.weighs (omega (arith, z.weighs, y.sum))).1 in
        omega arith

    -- the least of the lightest is the run
    pub best_multi : {c k : ℕ} (ps : List ℕ) → Lightest m W c k → Best m W c k ps → MultiRunTo m c (along m ps c)
    best_multi {c} {k} ps x z = record { visitor = (trail_run c ps z.trail).0; fewest_multiples = multiples_least; fewest = changes_least; least = least }
      where
        many : multiples m (along m ps c) ≡ multiples_along m c ps
        many = multiples_along_lem m ps c

        long : length (along m ps c) ≡ suc (length ps)
        long = omega (arith, length_back m ps (c % size m ∷ []))

        heavier : (a b : ℕ) → a < b → suc a * W ≤ b * W
        heavier a b h = mul-le-mul_right W h

        multiples_least : (ws : List ℕ) → Visitor m c ws → multiples m (along m ps c) ≤ multiples m ws
        multiples_least ws y =
            let (qs, t, h, l) = some_trail ok c ws y in
            let r = loopless ok c qs t in
            ⊎_elim
            (λ g. absurd (omega (arith, heavier _ _ g, r.few, few, x.fewest r.path r.trail, weight_is m W c r.path, weight_is m W c ps, z.weighs)))
            (λ g. omega (arith, many, r.lighter))
            (below_or (multiples_along m c r.path) (multiples_along m c ps))

        changes_least : (ws : List ℕ) → Visitor m c ws → multiples m ws ≡ multiples m (along m ps c) → length (along m ps c) ≤ length ws
        changes_least ws y e =
            let (qs, t, h, l) = some_trail ok c ws y in
            let g : multiples_along m c qs ≤ multiples_along m c ps = omega (arith, many) in
            omega (arith, long, mul-le-mul_right W g, x.fewest qs t, weight_is m W c qs, weight_is m W c ps, z.weighs)

        least : (ws : List ℕ) → Visitor m c ws → multiples m ws ≡ multiples m (along m ps c) → length ws ≡ length (along m ps c) → AtMost (rests m (along m ps c)) (rests m ws)
        least ws y e f =
            let (t, whole, l) = shortest_trail ok c ws y (λ us u h. omega (arith, changes_least us u (omega (arith, multiples_least us u)))) in
            let g : multiples_along m c (rests m ws) ≡ multiples_along m c ps = sym (multiples_along_lem m (rests m ws) c) ∙ ap (multiples m) (sym whole) ∙ e ∙ many in
            let w : weight m W c (rests m ws) ≡ k = omega (arith, weight_is m W c (rests m ws), weight_is m W c ps, z.weighs, long, ap (λ (a : ℕ). a * W) g) in
            rw (trail_run c ps z.trail).1 (z.least (rests m ws) t w)

    module _ (parent : ℕ → ℕ) (right : (k c : ℕ) → Lightest m W c (suc k) → Parent m W (suc k) c (parent c)) where
      chain : ℕ → ℕ → List ℕ
      chain zero c = []
      chain (suc b) c = parent c ∷ chain b (parent c)

      chain_followed : (b c : ℕ) (vs : List ℕ) → back m (chain b c) (c % size m ∷ vs) ≡ followed (size m) parent (suc b) c vs
      unfolding chain
      chain_followed zero c vs = refl
      chain_followed (suc b) c vs = chain_followed b (parent c) (c % size m ∷ vs)

      chain_best : (b k c : ℕ) (x : Lightest m W c k) → length x.path ≡ b → Best m W c k (chain b c)
      unfolding chain
      chain_best zero k c x e =
          let f : 0 ≡ k = sym (light x.path e) ∙ x.weighs in
          subst (λ (j : ℕ). Best m W c j []) f (best_start m W (subst (Lightest m W c) (sym f) x))
        where
          light : (ps : List ℕ) → length ps ≡ 0 → weight m W c ps ≡ 0
          light [] h = refl
          light (p ∷ ps) h = absurd (omega arith)
      chain_best (suc b) zero c x e = absurd (omega (arith, weight_is m W c x.path, x.weighs))
      chain_best (suc b) (suc k) c x e =
          let y = right k c x in
          best_step m W x y (chain_best b y.before.earlier (parent c) y.before.lightest (nearer x y.before e))

      -- parents lead back from a couple to the start of the run to it
      pub followed_multi : (k c : ℕ) → Lightest m W c k → MultiRunTo m c (followed (size m) parent (suc (k % W)) c [])
      followed_multi k c x = subst (MultiRunTo m c) (chain_followed (k % W) c []) (best_multi (chain (k % W) c) x (chain_best (k % W) k c x (sym (lightest_changes x))))

    -- the weight tells both counts of the run
    weight_counts : {c k : ℕ} (ps : List ℕ) → Lightest m W c k → Best m W c k ps → 0 < W → (multiples m (along m ps c) ≡ k / W) × (length (along m ps c) ≡ suc (k % W))
    weight_counts {c} {k} ps x z pos =
        let l : length ps < W = omega (arith, lightest_few x ps z.trail z.weighs) in
        let e : k ≡ multiples_along m c ps * W + length ps = sym z.weighs ∙ weight_is m W c ps in (
          multiples_along_lem m ps c ∙ sym (ap (λ (j : ℕ). j / W) e ∙ digits_div (multiples_along m c ps) l),
          omega (arith, length_back m ps (c % size m ∷ []), ap (λ (j : ℕ). j % W) e ∙ digits_mod (multiples_along m c ps) l),
        )

  pub best_exists : (W f k c : ℕ) → k < f → Lightest m W c k → (ps : List ℕ) × Best m W c k ps
  best_exists W zero k c l x = absurd (omega arith)
  best_exists W (suc f) zero c l x = ([], best_start m W x)
  best_exists W (suc f) (suc k) c l x =
      let (p, y) = parent_exists m W ok x in
      let (ps, z) = best_exists W f y.before.earlier p (omega (arith, y.before.sum)) y.before.lightest in
      (p ∷ ps, best_step m W x y z)

  -- the weight of a couple tells both counts of the run to it
  pub multi_counts : (W : ℕ) → couples m ≤ W → 0 < W → {c k : ℕ} {vs : List ℕ} → Lightest m W c k → MultiRunTo m c vs → (multiples m vs ≡ k / W) × (length vs ≡ suc (k % W))
  multi_counts W few pos {c} {k} {vs} x y =
      let (ps, z) = best_exists W (suc k) k c (le_refl _) x in
      let e : along m ps c ≡ vs = multi_unique c (along m ps c) vs (best_multi W few ps x z) y in
      subst (λ (us : List ℕ). (multiples m us ≡ k / W) × (length us ≡ suc (k % W))) e (weight_counts W few ps x z pos)

  -- the run has no more settings than there are couples, and fewer multiple changes
  pub multi_small : {c : ℕ} {vs : List ℕ} → MultiRunTo m c vs → (length vs ≤ couples m) × (multiples m vs < length vs)
  multi_small {c} {vs} y =
      let (qs, t, h, l) = some_trail ok c vs y.visitor in
      let r = loopless ok c qs t in
      let v = (trail_run c r.path r.trail).0 in
      let e : multiples m (along m r.path c) ≡ multiples m vs = omega (arith, multiples_along_lem m r.path c, r.lighter, y.fewest_multiples _ v) in
      let f = y.fewest (along m r.path c) v e in
      (omega (arith, length_back m r.path (c % size m ∷ []), r.few), omega (arith, multiples_along_lem m r.path c, multiples_few m c r.path, r.shorter))

  -- weights stay below the number of couples times W
  pub lightest_small : (W : ℕ) → couples m ≤ W → {c k : ℕ} → Lightest m W c k → k < couples m * W
  lightest_small W few {c} {k} x =
      let l = lightest_few W few x x.path x.trail x.weighs in
      let h : suc (multiples_along m c x.path) ≤ couples m = omega (arith, multiples_few m c x.path) in
      omega (arith, mul-le-mul_right W h, weight_is m W c x.path, x.weighs)

  -- every couple that some run visits has such a run
  pub multi_exists : (c : ℕ) → Marked m c → (vs : List ℕ) × MultiRunTo m c vs
  multi_exists c (us, v) =
      let (qs, t, h, l) = some_trail ok c us v in
      let (k, x) = lightest_exists m (couples m) ok c qs t in
      let (ps, z) = best_exists (couples m) (suc k) k c (le_refl _) x in
      (along m ps c, best_multi (couples m) (le_refl _) ps x z)
