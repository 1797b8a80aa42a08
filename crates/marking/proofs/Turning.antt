-- A round of the queue: the couples under the two heads, expanded one after the other in any order, give what a round gives, and the heads
-- stand where the next round wants them.
use mathlib.Core.Path.{◌≡◌, sym, ap, subst, ◌∙◌}
use mathlib.Core.Logic.{◌⊎◌, ⊎_elim, inl, inr}
use mathlib.Core.List.{List}
use mathlib.Core.Bool.{Bool, true, false}
use Prim.Native.Nat.{ℕ, suc, ◌+◌, ◌*◌, ◌%◌, ◌≤◌, ◌<◌, zero-le}
use native.Mathlib.Omega.{arith}
use lib.ListN.{length, get_or}
use lib.Dec.{eqb}
use Rattle.machine.specs.Couples.{differing, one_unless}
use Rattle.machine.specs.Runs.{Machine, size, couples, Sound}
use Rattle.machine.proofs.Order.{below_or, equal_or}
use Rattle.several.specs.Weights.{extra, unweighed}
use Rattle.several.specs.inner.Lightest.{step}
use Rattle.marking.specs.inner.Levels.{Source, Turned, Level, Started, Heads}
use Rattle.marking.specs.inner.Levels.Turned.{kept, found, left as without}
use Rattle.marking.specs.inner.Queue.{Fresh, Between, Leads, Room, Expanded, Spreads, Head}
use Rattle.marking.specs.inner.Queue.Expanded.{had, got, left}
use Rattle.marking.proofs.Levels.{listed_is, level_start, level_next, heads_next}

module _ {m : Machine} (ok : Sound m) (k r : ℕ) (R P Q : List ℕ) (a h b g e : ℕ) where
  -- the couples under the two heads
  abbrev pub Under : ℕ → ℕ → Type 0
  Under q c = (Between Q a h q × Leads m 1 q c) ⊎ (Between Q b g q × Leads m (suc extra) q c)

  module _ (level : Level m k R P) (small : k < unweighed) (heads : Heads m k R Q a b e)
      (single : Head 1 r R Q a h e) (many : Head (suc extra) r R Q b g e) (next : k < r) (fits : r < unweighed) where
    -- past a head the weights are higher
    past : {d x y : ℕ} → Head d r R Q x y e → (i : ℕ) → y ≤ i → i < e → r < get_or R (get_or Q i 0) 0 + d
    past {d} {x} {y} s i l u =
        let v : get_or R (get_or Q y 0) 0 + d ≡ r → ⊥ = s.stop (omega arith) in
        omega (arith, s.bound (omega (arith, s.from)), heads.sorted x y s.from (omega arith), heads.sorted y i l u)

    either : (p c : ℕ) → (step m extra p c ≡ 1) ⊎ (step m extra p c ≡ suc extra)
    either p c = go (eqb (differing m.inputs (p % size m) (c % size m)) 1)
      where
        go : (t : Bool) → (suc (one_unless t * extra) ≡ 1) ⊎ (suc (one_unless t * extra) ≡ suc extra)
        go true = inl (omega arith)
        go false = inr (omega arith)

    weighs_less : (c : ℕ) → c < couples m → (get_or R c 0 ≡ unweighed → ⊥) → get_or R c 0 ≤ k
    weighs_less c l n = (listed_is ok k R P level small c l n).1

    under_source : (q c : ℕ) → Under q c → Source m R r c q
    under_source q c (inl ((j, u, v, w), (s, f))) = record {
      below = subst (λ (x : ℕ). x < couples m) w (heads.low j (omega (arith, single.to)));
      steps = s;
      sum = rw (← w) (ap (λ (x : ℕ). get_or R (get_or Q j 0) 0 + x) (subst (λ (x : ℕ). step m extra x c ≡ 1) (sym w) f) ∙ single.over j u v);
    }
    under_source q c (inr ((j, u, v, w), (s, f))) = record {
      below = subst (λ (x : ℕ). x < couples m) w (heads.low j (omega (arith, many.to)));
      steps = s;
      sum = rw (← w) (ap (λ (x : ℕ). get_or R (get_or Q j 0) 0 + x) (subst (λ (x : ℕ). step m extra x c ≡ suc extra) (sym w) f) ∙ many.over j u v);
    }

    source_under : (q c : ℕ) → Source m R r c q → Under q c
    source_under q c s =
        let n : get_or R q 0 ≡ unweighed → ⊥ = λ f. omega (arith, s.sum) in
        let (i, l, w) = heads.all q s.below n in
        let at : get_or R (get_or Q i 0) 0 ≡ get_or R q 0 = ap (λ (x : ℕ). get_or R x 0) w in
        ⊎_elim
        (λ f. inl ((i, first i l (omega (arith, s.sum)), before i l (omega (arith, s.sum)), w), (s.steps, f)))
        (λ f. inr ((i, first_many i l (omega (arith, s.sum)), before_many i l (omega (arith, s.sum)), w), (s.steps, f)))
        (either q c)
      where
        first : (i : ℕ) → i < e → get_or R (get_or Q i 0) 0 + 1 ≡ r → a ≤ i
        first i l f = ⊎_elim (λ u. absurd (omega (arith, heads.single_had i u l))) (λ u. u) (below_or i a)

        before : (i : ℕ) → i < e → get_or R (get_or Q i 0) 0 + 1 ≡ r → i < h
        before i l f = ⊎_elim (λ u. u) (λ u. absurd (omega (arith, past single i u l))) (below_or i h)

        first_many : (i : ℕ) → i < e → get_or R (get_or Q i 0) 0 + suc extra ≡ r → b ≤ i
        first_many i l f = ⊎_elim (λ u. absurd (omega (arith, heads.multiple_had i u l))) (λ u. u) (below_or i b)

        before_many : (i : ℕ) → i < e → get_or R (get_or Q i 0) 0 + suc extra ≡ r → i < g
        before_many i l f = ⊎_elim (λ u. u) (λ u. absurd (omega (arith, past many i u l))) (below_or i g)

    module _ {R' P' Q' : List ℕ} {tail : ℕ} (total : length R ≡ couples m) (spread : Spreads Under r e R P Q R' P' Q' tail) where
      at_round : (c : ℕ) → Expanded Under r R P R' P' c → Turned m r R P R' P' c
      at_round c (had ne i j) = kept ne i j
      at_round c (got f u l i) = found f (under_source _ c u) (λ q s. l q (source_under q c s)) i
      at_round c (left f never i j) = without f (λ q s. never q (source_under q c s)) i

      -- the round gives all weights up to r
      pub round_level : Level m r R' P'
      round_level = level_next ok k R P level small r
          (heads_next ok k R P level small heads r (λ l. omega (arith, single.bound l)) (λ l. omega (arith, many.bound l)))
          next fits R' P' (λ c l. at_round c (spread.expanded c (rw total l)))

      -- what had a weight keeps it, what got one has r
      old : (i : ℕ) → i < e → (get_or Q' i 0 ≡ get_or Q i 0) × (get_or R' (get_or Q' i 0) 0 ≡ get_or R (get_or Q i 0) 0)
      old i l =
          let q = spread.kept i l in
          (q, ap (λ (x : ℕ). get_or R' x 0) q ∙ go (spread.expanded (get_or Q i 0) (rw total (heads.low i l))))
        where
          go : Expanded Under r R P R' P' (get_or Q i 0) → get_or R' (get_or Q i 0) 0 ≡ get_or R (get_or Q i 0) 0
          go (had ne x y) = x
          go (got f u y x) = absurd (heads.marked i l f)
          go (left f never x y) = absurd (heads.marked i l f)

      new : (i : ℕ) → e ≤ i → i < tail → get_or R' (get_or Q' i 0) 0 ≡ r
      new = spread.fresh.new

      -- the heads stand where the next round wants them
      pub round_heads : Heads m r R' Q' h g tail
      round_heads = record {
        low = λ i l. subst (λ (x : ℕ). get_or Q' i 0 < x) (spread.same_length ∙ total) (spread.room.low i l);
        all = λ c l n. all c l n (spread.expanded c (rw total l));
        marked = spread.room.marked;
        sorted = sorted;
        single_had = λ i l o. let o' : i < e = omega (arith, single.to) in
            ⊎_elim (λ u. omega (arith, (old i o').1, heads.single_had i u o')) (λ u. omega (arith, (old i o').1, single.over i u l)) (below_or i a);
        single_left = λ i l o. ⊎_elim (λ u. omega (arith, (old i u).1, past single i l u)) (λ u. omega (arith, new i u o)) (below_or i e);
        multiple_had = λ i l o. let o' : i < e = omega (arith, many.to) in
            ⊎_elim (λ u. omega (arith, (old i o').1, heads.multiple_had i u o')) (λ u. omega (arith, (old i o').1, many.over i u l)) (below_or i b);
        multiple_left = λ i l o. ⊎_elim (λ u. omega (arith, (old i u).1, past many i l u)) (λ u. omega (arith, new i u o)) (below_or i e);
      }
        where
          all : (c : ℕ) → c < couples m → (get_or R' c 0 ≡ unweighed → ⊥) → Expanded Under r R P R' P' c → (i : ℕ) × (i < tail) × (get_or Q' i 0 ≡ c)
          all c l n (had ne i j) = let (x, u, w) = heads.all c l ne in (x, omega (arith, spread.fresh.from), spread.kept x u ∙ w)
          all c l n (got f u o i) = let (x, y, z, w) = spread.fresh.all c (rw (spread.same_length ∙ total) l) i in (x, z, w)
          all c l n (left f never i j) = absurd (n i)

          light : (i : ℕ) → i < e → get_or R (get_or Q i 0) 0 ≤ k
          light i l = weighs_less (get_or Q i 0) (heads.low i l) (heads.marked i l)

          sorted : (i j : ℕ) → i ≤ j → j < tail → get_or R' (get_or Q' i 0) 0 ≤ get_or R' (get_or Q' j 0) 0
          sorted i j l o = ⊎_elim
              (λ u. omega (arith, (old i (omega arith)).1, (old j u).1, heads.sorted i j l u))
              (λ u. ⊎_elim (λ v. omega (arith, (old i v).1, light i v, new j u o)) (λ v. omega (arith, new i v (omega arith), new j u o)) (below_or i e))
              (below_or j e)

-- a head moves over a couple that it brings to the weight of the round
pub head_moves : {d r : ℕ} {R Q : List ℕ} {a h e : ℕ} → Head d r R Q a h e → a < e → get_or R (get_or Q a 0) 0 + d ≡ r → a < h
head_moves {d} {r} {R} {Q} {a} {h} {e} x l f = ⊎_elim
    (λ (q : a ≡ h). absurd (x.stop (omega arith) (subst (λ (i : ℕ). get_or R (get_or Q i 0) 0 + d ≡ r) q f)))
    (λ (q : a ≡ h → ⊥). omega (arith, x.from))
    (equal_or a h)

module _ {m : Machine} (ok : Sound m) where
  -- the starts in the queue
  pub start_heads : {R P Q : List ℕ} {tail : ℕ} → length R ≡ couples m → Started m R → Room R P Q tail → Fresh 0 0 R Q tail
      → Level m 0 R P × Heads m 0 R Q 0 0 tail
  start_heads {R} {P} {Q} {tail} total started room fresh = (
    level_start ok R P started,
    record {
      low = λ i l. subst (λ (x : ℕ). get_or Q i 0 < x) total (room.low i l);
      all = λ c l n. ⊎_elim
          (λ x. let (i, u, v, w) = fresh.all c (rw total l) x.1 in (i, v, w))
          (λ x. absurd (n x.1))
          (started c l);
      marked = room.marked;
      sorted = λ i j l h. omega (arith, fresh.new i zero-le (omega arith), fresh.new j zero-le h);
      single_had = λ i l h. absurd (omega arith);
      single_left = λ i l h. zero-le;
      multiple_had = λ i l h. absurd (omega arith);
      multiple_left = λ i l h. zero-le;
    },
  )
