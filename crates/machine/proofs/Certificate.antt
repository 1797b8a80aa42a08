-- Lists of ranks and parents that pass a test are those of the machine: ranks are 0 at starts and rise by at most one at each change,
-- and each other rank has a parent of the rank before, of which none is smaller.
use mathlib.Core.Path.{◌≡◌, refl, sym, ap, subst, ◌∙◌}
use mathlib.Core.Logic.{⊎_elim, inl, inr}
use mathlib.Core.List.{List, [], ◌∷◌}
use mathlib.Core.Bool.{Bool, true, not, ◌&&◌, cond}
use Prim.Native.Nat.{ℕ, zero, suc, ◌/◌, ◌%◌, ◌≤◌, ◌<◌}
use native.Mathlib.Omega.{arith}
use lib.ListN.{get_or, length}
use lib.Dec.{eqb, ltb}
use lib.Pow.{high, low}
use Rattle.machine.specs.Limits.{unmarked}
use Rattle.machine.specs.Runs.{Machine, size, couples, couple, Sound, Starts, Rank, RankOrUnmarked}
use Rattle.machine.specs.inner.Trails.{Steps, Parent, Trail}
use Rattle.machine.specs.inner.Model.{Listed}
use Rattle.machine.proofs.Order.{below_or}
use Rattle.machine.proofs.Shortest.{rank_has, trail_rank}
use Rattle.machine.proofs.Exists.{marked_below, marked_rank, trail_below}
use Rattle.machine.proofs.Small.{rank_unique, rank_small}
use Rattle.verdict.specs.Below.{every}
use Rattle.verdict.proofs.Below.{decides_every}
use Rattle.machine.proofs.Tests.{starts, decides_starts, steps, decides_steps, whole}
use Rattle.verdict.specs.Checks.{Decides}
use Rattle.verdict.proofs.Tests.{decides_map, decides_equal, decides_below, decides_not, ◌also◌, decides_if}

-- what is asked at couple c
pub record Right (m : Machine) (R P : List ℕ) (c : ℕ) : Type 0 where
  pub small : get_or R c 0 < suc unmarked
  pub begins : get_or R c 0 ≡ 0 → (c / size m ≡ m.initial) × Starts m (c % size m)
  pub start : (c / size m ≡ m.initial) × Starts m (c % size m) → get_or R c 0 ≡ 0
  pub rises : (p : ℕ) → p < couples m → Steps m p c → get_or R c 0 < suc (suc (get_or R p 0))
  pub parent : (0 < get_or R c 0) × (get_or R c 0 < unmarked) → (get_or P c 0 < couples m) × (Steps m (get_or P c 0) c × (suc (get_or R (get_or P c 0) 0) ≡ get_or R c 0))
  pub least : (q : ℕ) → q < get_or P c 0 → Steps m q c × (suc (get_or R q 0) ≡ get_or R c 0) → ⊥

module _ (m : Machine) (R P : List ℕ) where
  start_at : ℕ → Bool
  start_at c = eqb (c / size m) m.initial && starts m (c % size m)

  unfoldable pub right : ℕ → Bool
  unfolding start_at
  right c =
      ltb (get_or R c 0) (suc unmarked)
      && (cond (eqb (get_or R c 0) 0) (start_at c) true
      && (cond (start_at c) (eqb (get_or R c 0) 0) true
      && (every (couples m) (λ p. cond (steps m p c) (ltb (get_or R c 0) (suc (suc (get_or R p 0)))) true)
      && (cond (ltb 0 (get_or R c 0) && ltb (get_or R c 0) unmarked) (ltb (get_or P c 0) (couples m) && (steps m (get_or P c 0) c && eqb (suc (get_or R (get_or P c 0) 0)) (get_or R c 0))) true
      && every (get_or P c 0) (λ q. not (steps m q c && eqb (suc (get_or R q 0)) (get_or R c 0)))))))

  decides_right : (c : ℕ) → Decides (Right m R P c) (right c)
  unfolding right start_at
  decides_right c = decides_map
      (λ x. record { small = x.0; begins = x.1.0; start = x.1.1.0; rises = x.1.1.1.0; parent = x.1.1.1.1.0; least = x.1.1.1.1.1 })
      (λ x. (x.small, (x.begins, (x.start, (x.rises, (x.parent, x.least))))))
      (decides_below _ _
      also (decides_if (decides_equal _ _) at_start
      also (decides_if at_start (decides_equal _ _)
      also (decides_every (couples m) _ _ (λ p. decides_if (decides_steps m p c) (decides_below _ _))
      also (decides_if (decides_below _ _ also decides_below _ _) (decides_below _ _ also (decides_steps m _ c also decides_equal _ _))
      also decides_every (get_or P c 0) _ _ (λ q. decides_not (decides_steps m q c also decides_equal _ _)))))))
    where
      at_start : Decides ((c / size m ≡ m.initial) × Starts m (c % size m)) (start_at c)
      at_start = decides_equal _ _ also decides_starts m _

  module _ (ok : Sound m) (few : couples m ≤ unmarked) (all : (c : ℕ) → c < couples m → Right m R P c) where
    -- no trail is shorter than the rank that stands in the list
    above : (c : ℕ) (ps : List ℕ) → Trail m c ps → get_or R c 0 ≤ length ps
    above c [] t = let l = trail_below ok c [] t in
        omega (arith, (all c l).start (here c t))
      where
        here : (c : ℕ) → Trail m c [] → (c / size m ≡ m.initial) × Starts m (c % size m)
        here c (v, s, e) =
            (ap (λ (y : ℕ). y / size m) e ∙ high m.initial m.inputs s.below, subst (Starts m) (sym (ap (λ (y : ℕ). y % size m) e ∙ low m.initial m.inputs s.below)) s)
    above c (p ∷ ps) t = omega (arith, (all c (trail_below ok c (p ∷ ps) t)).rises p (trail_below ok p ps t.0) t.1, above p ps t.0)

    -- and one is as long
    reached : (r c : ℕ) → c < couples m → get_or R c 0 ≡ r → r < unmarked → (ps : List ℕ) × Trail m c ps × (length ps ≡ r)
    reached zero c l e h = let (s, x) = (all c l).begins e in ([], (c % size m, x, whole m c ∙ ap (λ (s : ℕ). couple m s (c % size m)) s), refl)
    reached (suc r) c l e h =
        let (b, (x, y)) = (all c l).parent (omega arith, omega arith) in
        let (ps, t, n) = reached r (get_or P c 0) b (omega arith) (omega arith) in
        (get_or P c 0 ∷ ps, (t, x), omega arith)

    is : (c : ℕ) → c < couples m → get_or R c 0 < unmarked → Rank m c (get_or R c 0)
    is c l h = let (ps, t, e) = reached _ c l refl h in trail_rank ok ps t e (λ qs u. above c qs u)

    found : (c r : ℕ) → Rank m c r → get_or R c 0 ≡ r
    found c r x =
        let l = marked_below ok (x.some, x.visitor) in
        let (ps, t, e) = rank_has ok x in
        rank_unique (is c l (omega (arith, above c ps t, rank_small ok x))) x

    pub certified : Listed m R P
    certified = record { rank = rank; parent = parent }
      where
        rank : (c : ℕ) → c < couples m → RankOrUnmarked m c (get_or R c 0)
        rank c l = ⊎_elim
            (λ h. inl (h, is c l h))
            (λ h. inr (omega (arith, (all c l).small), λ x. let (r, y) = marked_rank ok x in omega (arith, found c r y, rank_small ok y)))
            (below_or (get_or R c 0) unmarked)

        parent : (r c : ℕ) → Rank m c (suc r) → Parent m r c (get_or P c 0)
        parent r c x =
            let l = marked_below ok (x.some, x.visitor) in
            let e = found c (suc r) x in
            let (b, (s, y)) = (all c l).parent (omega arith, omega (arith, rank_small ok x)) in
            record {
              steps = s;
              rank = subst (Rank m (get_or P c 0)) (omega arith) (is (get_or P c 0) b (omega (arith, rank_small ok x)));
              least = λ q z w. ⊎_elim (λ h. absurd ((all c l).least q h (z, omega (arith, found q r w)))) (λ h. h) (below_or q (get_or P c 0));
            }

  pub by_test : Sound m → couples m ≤ unmarked → every (couples m) right ≡ true → Listed m R P
  by_test ok few e = certified ok few ((decides_every (couples m) right _ decides_right).holds e)
