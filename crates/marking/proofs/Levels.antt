-- The laws of marking in the order of weights: after all weights up to k, one round of a weight that no change comes below gives all
-- weights up to that one, since a couple of that weight has a parent of a smaller one; where no change is left, all weights are there.
use mathlib.Core.Path.{◌≡◌, refl, sym, subst, ◌∙◌}
use mathlib.Core.Logic.{◌⊎◌, ⊎_elim, inl, inr}
use mathlib.Core.List.{List, [], ◌∷◌}
use mathlib.Core.Bool.{Bool, true, false}
use Prim.Native.Nat.{ℕ, zero, suc, ◌+◌, ◌*◌, ◌-◌, ◌%◌, ◌≤◌, ◌<◌, zero-le}
use native.Mathlib.Nat.{le_refl}
use native.Mathlib.Omega.{arith}
use lib.ListN.{get_or}
use lib.Dec.{eqb}
use Rattle.machine.specs.Couples.{differing, one_unless}
use Rattle.machine.specs.Runs.{Machine, size, couples, Sound, Marked}
use Rattle.machine.specs.inner.Trails.{Steps, Trail}
use Rattle.machine.proofs.Order.{below_or, equal_or}
use Rattle.machine.proofs.Exists.{trail_below}
use Rattle.several.specs.Weights.{extra, unweighed}
use Rattle.several.specs.inner.Lightest.{step, weight, Lightest, Before, Parent, Complete}
use Rattle.marking.specs.inner.Levels.{Source, Turned, Round, Leveled, Level, Started, NoneBelow, Heads}
use Rattle.marking.specs.inner.Levels.Turned.{kept, found, left}
use Rattle.marking.specs.inner.Levels.Leveled.{within, beyond}
use Rattle.several.proofs.Along.{some_trail}
use Rattle.several.proofs.Weights.{lightest_unique, lightest_exists, parent_exists}

module _ {m : Machine} (ok : Sound m) where
  lightest_below : {c r : ℕ} → Lightest m extra c r → c < couples m
  lightest_below x = trail_below ok _ x.path x.trail

  module _ (k : ℕ) (R P : List ℕ) (level : Level m k R P) (small : k < unweighed) where
    -- a weight up to k stands in the list
    listed : (c r : ℕ) → Lightest m extra c r → r ≤ k → get_or R c 0 ≡ r
    listed c r x l = go (level c (lightest_below x))
      where
        go : Leveled m k R P c → get_or R c 0 ≡ r
        go (within y h p) = lightest_unique m extra y x
        go (beyond e n) = absurd (omega (arith, n r x))

    -- and what stands there is one
    pub listed_is : (c : ℕ) → c < couples m → (get_or R c 0 ≡ unweighed → ⊥) → Lightest m extra c (get_or R c 0) × (get_or R c 0 ≤ k)
    listed_is c l n = go (level c l)
      where
        go : Leveled m k R P c → Lightest m extra c (get_or R c 0) × (get_or R c 0 ≤ k)
        go (within y h p) = (y, h)
        go (beyond e _) = absurd (n e)

    heavy : (c r : ℕ) → Lightest m extra c r → k < r → get_or R c 0 ≡ unweighed
    heavy c r x l = go (level c (lightest_below x))
      where
        go : Leveled m k R P c → get_or R c 0 ≡ unweighed
        go (within y h p) = absurd (omega (arith, lightest_unique m extra y x))
        go (beyond e n) = e

    -- a couple with a trail of weight up to k has a weight
    has_weight : (c : ℕ) (ps : List ℕ) → Trail m c ps → weight m extra c ps ≤ k → get_or R c 0 ≡ unweighed → ⊥
    has_weight c ps t l e =
        let (r, x) = lightest_exists m extra ok c ps t in
        omega (arith, listed c r x (omega (arith, x.fewest ps t)), x.fewest ps t)

    module _ (k' : ℕ) (bound : NoneBelow m k' R) where
      -- no couple weighs more than k and less than the next weight
      gap_below : (f c r : ℕ) → r < f → Lightest m extra c r → k < r → k' ≤ r
      gap_below zero c r l x h = absurd (omega arith)
      gap_below (suc f) c zero l x h = absurd (omega arith)
      gap_below (suc f) c (suc r) l x h =
          let (p, y) = parent_exists m extra ok x in
          let z = y.before in
          ⊎_elim
          (λ g. omega (arith, gap_below f p z.earlier (omega (arith, z.sum)) z.lightest g, z.sum))
          (λ g. let e = listed p z.earlier z.lightest g in
          omega (arith, bound p c (lightest_below z.lightest) (lightest_below x) (λ q. omega arith) z.steps (heavy c (suc r) x h), z.sum))
          (below_or k z.earlier)

      gap : (c r : ℕ) → Lightest m extra c r → k < r → k' ≤ r
      gap c r x h = gap_below (suc r) c r (le_refl _) x h

      -- the couple before a change to weight k' is listed
      source_of : {c p : ℕ} → Before m extra k' c p → Source m R k' c p
      source_of {c} {p} z = ⊎_elim
          (λ g. absurd (omega (arith, gap p z.earlier z.lightest g, z.sum)))
          (λ g. let e = listed p z.earlier z.lightest g in
          record { below = lightest_below z.lightest; steps = z.steps; sum = omega (arith, z.sum) })
          (below_or k z.earlier)

      before_of : {c p : ℕ} → k' < unweighed → Source m R k' c p → Before m extra k' c p
      before_of {c} {p} h s = record { steps = s.steps; earlier = get_or R p 0; sum = s.sum; lightest = (listed_is p s.below (λ e. omega (arith, s.sum))).0 }

      pub level_next : k < k' → k' < unweighed → (R' P' : List ℕ) → Round m k' R P R' P' → Level m k' R' P'
      level_next more h R' P' round c l = go (round c l) (level c l)
        where
          go : Turned m k' R P R' P' c → Leveled m k R P c → Leveled m k' R' P' c
          go (kept ne e f) (within y i p) = within (subst (Lightest m extra c) (sym e) y) (omega arith) (λ j q. subst (Parent m extra (suc j) c) (sym f) (p j (sym e ∙ q)))
          go (kept ne e f) (beyond g n) = absurd (ne g)
          go (found g s least e) (within y i p) = absurd (omega arith)
          go (found g s least e) (beyond _ n) =
              let b = before_of h s in
              let x = b.lightest in
              let z : Lightest m extra c k' = record {
                path = get_or P' c 0 ∷ x.path;
                trail = (x.trail, b.steps);
                weighs = omega (arith, x.weighs, b.sum);
                fewest = λ qs u. let (r, w) = lightest_exists m extra ok c qs u in omega (arith, gap c r w (n r w), w.fewest qs u);
              } in
              within (subst (Lightest m extra c) (sym e) z) (omega arith) (λ j q. let i : k' ≡ suc j = sym e ∙ q in
              subst (λ (d : ℕ). Parent m extra d c (get_or P' c 0)) i (record { before = b; least = λ q w. least q (source_of w) }))
          go (left g never e) (within y i p) = absurd (omega arith)
          go (left g never e) (beyond _ n) = beyond e (λ r x. ⊎_elim
              (λ (q : r ≡ k'). absurd (not_next (subst (Lightest m extra c) q x)))
              (λ (q : r ≡ k' → ⊥). omega (arith, gap c r x (n r x)))
              (equal_or r k'))
            where
              not_next : Lightest m extra c k' → ⊥
              not_next x =
                  let e : k' ≡ suc (k' - 1) = omega arith in
                  let (p, y) = parent_exists m extra ok (subst (Lightest m extra c) e x) in
                  never p (source_of (subst (λ (d : ℕ). Before m extra d c p) (sym e) y.before))

    -- where every change from a couple with a weight leads to one with a weight, the lists are complete
    pub level_last : ((p c : ℕ) → p < couples m → c < couples m → (get_or R p 0 ≡ unweighed → ⊥) → Steps m p c → get_or R c 0 ≡ unweighed → ⊥) → Complete m extra unweighed R P
    level_last closed = record { weight = λ c l. whole c l (level c l); parent = λ j c x. parent j c x (level c (lightest_below x)) }
      where
        seen : (c : ℕ) (ps : List ℕ) → Trail m c ps → get_or R c 0 ≡ unweighed → ⊥
        seen c [] t = has_weight c [] t zero-le
        seen c (p ∷ ps) t = closed p c (trail_below ok p ps t.0) (trail_below ok c (p ∷ ps) t) (seen p ps t.0) t.1

        whole : (c : ℕ) → c < couples m → Leveled m k R P c → (Lightest m extra c (get_or R c 0) × (get_or R c 0 < unweighed)) ⊎ ((get_or R c 0 ≡ unweighed) × (Marked m c → ⊥))
        whole c l (within y i p) = inl (y, omega arith)
        whole c l (beyond e n) = inr (e, λ x. let (ps, t, _, _) = some_trail ok c x.0 x.1 in seen c ps t e)

        parent : (j c : ℕ) → Lightest m extra c (suc j) → Leveled m k R P c → Parent m extra (suc j) c (get_or P c 0)
        parent j c x (within y i p) = p j (lightest_unique m extra y x)
        parent j c x (beyond e n) = absurd (seen c x.path x.trail e)

    -- the two heads of the queue tell the next weight
    module _ {Q : List ℕ} {a b tail : ℕ} (heads : Heads m k R Q a b tail) where
      either : (p c : ℕ) → (step m extra p c ≡ 1) ⊎ (step m extra p c ≡ suc extra)
      either p c = go (eqb (differing m.inputs (p % size m) (c % size m)) 1)
        where
          go : (t : Bool) → (suc (one_unless t * extra) ≡ 1) ⊎ (suc (one_unless t * extra) ≡ suc extra)
          go true = inl (omega arith)
          go false = inr (omega arith)

      -- a change that weighs d from a couple without a successor of that weight
      unhad : (p c d : ℕ) → p < couples m → (get_or R p 0 ≡ unweighed → ⊥) → Steps m p c → get_or R c 0 ≡ unweighed → step m extra p c ≡ d → k < get_or R p 0 + d
      unhad p c d l n s e f = ⊎_elim (λ h. h)
          (λ h. let (x, _) = listed_is p l n in absurd (has_weight c (p ∷ x.path) (x.trail, s) (omega (arith, x.weighs)) e))
          (below_or k (get_or R p 0 + d))

      pub heads_next : (k' : ℕ) → (a < tail → k' ≤ suc (get_or R (get_or Q a 0) 0)) → (b < tail → k' ≤ suc (get_or R (get_or Q b 0) 0 + extra)) → NoneBelow m k' R
      heads_next k' one many p c l _ n s e =
          let (i, h, q) = heads.all p l n in
          ⊎_elim
          (λ f. let u = unhad p c 1 l n s e f in
          ⊎_elim
          (λ g. absurd (omega (arith, at i q (λ x. x < k) (heads.single_had i g h))))
          (λ g. omega (arith, one (omega arith), at i q (λ x. get_or R (get_or Q a 0) 0 ≤ x) (heads.sorted a i g h)))
          (below_or i a))
          (λ f. let u = unhad p c (suc extra) l n s e f in
          ⊎_elim
          (λ g. absurd (omega (arith, at i q (λ x. x + extra < k) (heads.multiple_had i g h))))
          (λ g. omega (arith, many (omega arith), at i q (λ x. get_or R (get_or Q b 0) 0 ≤ x) (heads.sorted b i g h)))
          (below_or i b))
          (either p c)
        where
          at : (i : ℕ) → get_or Q i 0 ≡ p → (F : ℕ → Type 0) → F (get_or R (get_or Q i 0) 0) → F (get_or R p 0)
          at i q F x = subst (λ (d : ℕ). F (get_or R d 0)) q x

      -- where the first head is at the end, and the second too if any change is multiple, the lists are complete
      pub heads_last : tail ≤ a → ((p c : ℕ) → Steps m p c → step m extra p c ≡ suc extra → tail ≤ b) → Complete m extra unweighed R P
      heads_last h g = level_last (λ p c l _ n s e.
          let (i, j, q) = heads.all p l n in
          ⊎_elim
          (λ f. omega (arith, unhad p c 1 l n s e f, subst (λ (d : ℕ). get_or R d 0 < k) q (heads.single_had i (omega arith) j)))
          (λ f. omega (arith, unhad p c (suc extra) l n s e f, subst (λ (d : ℕ). get_or R d 0 + extra < k) q (heads.multiple_had i (omega (arith, g p c s f)) j)))
          (either p c))

  pub level_start : (R P : List ℕ) → Started m R → Level m 0 R P
  level_start R P s c l = ⊎_elim
      (λ x. within (subst (Lightest m extra c) (sym x.1) (record { path = []; trail = x.0; weighs = refl; fewest = λ qs u. zero-le })) (omega (arith, x.1)) (λ j q. absurd (omega (arith, x.1))))
      (λ x. beyond x.1 (λ r y. ⊎_elim (λ e. absurd (x.0 (begins y.path y.trail (y.weighs ∙ e)))) (λ (e : r ≡ 0 → ⊥). omega arith) (equal_or r 0)))
      (s c l)
    where
      begins : (ps : List ℕ) → Trail m c ps → weight m extra c ps ≡ 0 → Trail m c []
      begins [] t e = t
      begins (p ∷ ps) t e = absurd (omega arith)
