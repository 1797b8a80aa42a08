-- A round: the couples under the two heads are those whose changes bring others to the next weight, so that after it the lists hold all
-- weights up to that one. Where no round is left, all weights and parents are there.
use mathlib.Core.Path.{◌≡◌, refl, sym, ap, subst, ◌∙◌}
use mathlib.Core.Logic.{◌⊎◌, inl, inr, ⊎_elim}
use mathlib.Core.Bool.{Bool, true, false}
use mathlib.Core.List.{List}
use Prim.Native.Nat.{ℕ, suc, ◌+◌, ◌*◌, ◌/◌, ◌%◌, ◌≤◌, ◌<◌}
use native.Mathlib.Nat.{le_refl, lt_of_lt_of_le, mod-lt, mul-le-mul_right}
use native.Mathlib.Omega.{arith}
use lib.ListN.{get_or, length}
use lib.Pow.{pow_pos, high, low}
use borrow.Author.Tests.{eq-eqb, ne_eqb}
use Rattle.machine.specs.Limits.{most_couples}
use Rattle.machine.specs.Couples.{differing}
use Rattle.machine.specs.Runs.{Machine, size, couples, Sound}
use Rattle.machine.specs.inner.Trails.{Steps}
use Rattle.machine.proofs.Order.{below_or, equal_or}
use Rattle.machine.proofs.Tests.{whole}
use Rattle.machine.proofs.Trails.{stepped}
use Rattle.machine.proofs.Flips.{Single as AllSingle}
use Rattle.several.specs.Several.{multiple}
use Rattle.several.specs.Weights.{extra, unweighed}
use Rattle.several.specs.inner.Lightest.{step, Complete}
use Rattle.several.proofs.Runs.{lightest_small}
use Rattle.several.proofs.Listed.{weight_listed, parent_listed}
use Rattle.marking.specs.declared.changes.Changes.{Changes}
use Rattle.marking.specs.declared.changes.Changes.TheVariants.{Single, Multiple}
use Rattle.marking.specs.inner.Queue.{Between, Leads, Spread, Expanded, Head}
use Rattle.marking.specs.inner.Queue.Expanded.{had, got, left}
use Rattle.marking.specs.inner.Engine.{Kind, weight_of, ByChange, ByRest, SpreadAs, Light, Next, Before, RoundLeft, Progress}
use Rattle.marking.specs.inner.Parts.{Weighed}
use Rattle.marking.proofs.Pushing.{room_left}
use Rattle.marking.proofs.Levels.{listed_is, level_last, heads_last}
use Rattle.marking.proofs.Turning.{Under, round_level, round_heads, head_moves}
use Rattle.marking.proofs.Spreading.{spread_then, spread_as, spread_round, spread_kept}
use Rattle.marking.proofs.Heads.{room_full}

-- each change that a run may make alters an input
pub record Alters (m : Machine) : Type 0 where
  pub some : (v w : ℕ) → m.may_change v w ≡ true → 0 < differing m.inputs v w

module _ (m : Machine) where
  -- a change weighs as its kind does
  kind_weight : (many : Changes) (v w : ℕ) → Kind many m.inputs v w → suc (multiple m v w * extra) ≡ weight_of many
  kind_weight Multiple v w k = rw (ne_eqb (differing m.inputs v w) 1 (λ e. omega arith)) refl
  kind_weight Single v w k = rw (eq-eqb (differing m.inputs v w) 1 k) refl

  weight_kind : (many : Changes) (v w : ℕ) → 0 < differing m.inputs v w → suc (multiple m v w * extra) ≡ weight_of many → Kind many m.inputs v w
  weight_kind many v w l = ⊎_elim (single many) (several many) (equal_or (differing m.inputs v w) 1)
    where
      single : (many : Changes) → differing m.inputs v w ≡ 1 → suc (multiple m v w * extra) ≡ weight_of many → Kind many m.inputs v w
      single Multiple e f = absurd (omega (arith, rw (eq-eqb (differing m.inputs v w) 1 e) at f))
      single Single e f = e

      several : (many : Changes) → (differing m.inputs v w ≡ 1 → ⊥) → suc (multiple m v w * extra) ≡ weight_of many → Kind many m.inputs v w
      several Multiple e f = omega arith
      several Single e f = absurd (omega (arith, rw (ne_eqb (differing m.inputs v w) 1 e) at f))

  -- what the code expands are the changes of each weight
  by_steps : (many : Changes) (p c : ℕ) → ByRest many m p c → Leads m (weight_of many) p c
  by_steps many p c (e, w, l, k, (a, x)) =
      let y : Steps m p c = record {
        state = p / size m;
        from = p % size m;
        to = w;
        below = mod-lt p (pow_pos m.inputs);
        here = whole m p;
        rests = ap (λ (y : ℕ). get_or m.table y 0) (sym (whole m p)) ∙ e;
        change = record { below = l; allowed = a };
        visits = x;
      } in
      (y, rw (stepped y) (kind_weight many (p % size m) w k))

  steps_by_lem : Alters m → (many : Changes) (p c : ℕ) → Leads m (weight_of many) p c → ByRest many m p c
  steps_by_lem alters many p c (x, f) =
      let a : x.state ≡ p / size m = sym (ap (λ (y : ℕ). y / size m) x.here ∙ high x.state m.inputs x.below) in
      let b : x.from ≡ p % size m = sym (ap (λ (y : ℕ). y % size m) x.here ∙ low x.state m.inputs x.below) in
      let free : m.may_change (p % size m) x.to ≡ true = subst (λ (v : ℕ). m.may_change v x.to ≡ true) b x.change.allowed in
      let k : Kind many m.inputs (p % size m) x.to = weight_kind many (p % size m) x.to (alters.some _ _ free) (rw (stepped x) at f) in (
        ap (λ (y : ℕ). get_or m.table y 0) x.here ∙ x.rests ∙ a,
        x.to,
        x.change.below,
        k,
        (free, subst (λ (y : ℕ). ByChange m y x.to c) a x.visits),
      )

  -- where every change is single, none weighs more
  single_step : AllSingle m → (p c : ℕ) → Steps m p c → step m extra p c ≡ suc extra → ⊥
  single_step single p c x f =
      let b : p % size m ≡ x.from = ap (λ (y : ℕ). y % size m) x.here ∙ low x.state m.inputs x.below in
      let g = rw (b, stepped x) at f in
      omega (arith, rw (eq-eqb _ 1 (single.one x.from x.to x.change.allowed)) at g)

module _ {m : Machine} (ok : Sound m) (fits : couples m ≤ most_couples) {R P Q : List ℕ} {a b e : ℕ} (x : Progress m R P Q a b e) where
  few : couples m ≤ extra
  few = omega arith

  -- every weight in the queue can be added to
  light : (c : ℕ) → c < couples m → (get_or R c 0 ≡ unweighed → ⊥) → get_or R c 0 + suc extra ≤ unweighed
  light c l f = omega (arith, lightest_small ok extra few (listed_is ok x.up_to R P x.level x.small c l f).0, mul-le-mul_right extra fits)

  pub light_at : (j : ℕ) → j < e → Light R Q j
  light_at j l = record {
    long = omega (arith, room_full x.room, x.room.long);
    low = x.room.low j l;
    light = light (get_or Q j 0) (x.heads.low j l) (x.room.marked j l);
  }

  -- the second head is never before the first
  behind : b ≤ a
  behind = ⊎_elim
      (λ (l : a < b). let h : a < e = omega (arith, x.b_in) in absurd (omega (arith, x.heads.multiple_had a l h, x.heads.single_left a (le_refl a) h)))
      (λ l. l)
      (below_or a b)

  pub second_left : (several : Bool) → Before several a b e → b < e
  second_left true l = l
  second_left false l = omega (arith, behind)

  -- no round is left
  complete : (several : Bool) → (several ≡ false → AllSingle m) → (RoundLeft several a b e (length R) → ⊥) → Complete m extra unweighed R P
  complete several single none = ⊎_elim
      (λ l. at_end several single (λ h. none (record { some = l; head = h })))
      (λ l. level_last ok x.up_to R P x.level x.small (λ p c _ h _ _ u. omega (arith, room_left x.room c (rw x.total h) u)))
      (below_or e (length R))
    where
      at_end : (several : Bool) → (several ≡ false → AllSingle m) → (Before several a b e → ⊥) → Complete m extra unweighed R P
      at_end true single l = heads_last ok x.up_to R P x.level x.small x.heads (omega (arith, behind)) (λ _ _ _ _. omega arith)
      at_end false single l = heads_last ok x.up_to R P x.level x.small x.heads (omega arith) (λ p c s f. absurd (single_step m (single refl) p c s f))

  pub progress_last : (several : Bool) → (several ≡ false → AllSingle m) → (RoundLeft several a b e (length R) → ⊥) → Weighed m R P
  progress_last several single none =
      let all = complete several single none in
      record {
        exact = record { weights_are = x.total; parents_are = x.room.parents_long ∙ x.total };
        weight = weight_listed ok fits R P all;
        parent = λ c l. parent_listed ok fits R P all c l (x.orphan c (rw x.total l));
      }

  module _ {r : ℕ} (y : Next r R Q a b e) where
    higher : x.up_to < r
    higher = ⊎_elim
        (λ (l, f). omega (arith, x.heads.single_left a (le_refl a) l))
        (λ (l, f). omega (arith, x.heads.multiple_left b (le_refl b) l))
        y.is

    pub next_small : r < unweighed
    next_small = ⊎_elim
        (λ (l, f). omega (arith, (light_at a l).light))
        (λ (l, f). omega (arith, light_next (get_or Q b 0) (x.heads.low b l) (x.room.marked b l)))
        y.is
      where
        light_next : (c : ℕ) → c < couples m → (get_or R c 0 ≡ unweighed → ⊥) → get_or R c 0 + suc extra < unweighed
        light_next c l f = omega (arith, lightest_small ok extra few (listed_is ok x.up_to R P x.level x.small c l f).0, mul-le-mul_right extra fits)

    unused : (c : ℕ) → c < length R → get_or R c 0 ≡ r → ⊥
    unused c l f =
        let g = (listed_is ok x.up_to R P x.level x.small c (rw x.total at l) (λ q. omega (arith, next_small))).1 in
        omega (arith, higher)

    module _ (alters : Alters m) {R₁ P₁ Q₁ R₂ P₂ Q₂ : List ℕ} {h g t₁ t₂ : ℕ}
        (u : SpreadAs m Single r a e R P Q e R₁ P₁ Q₁ h t₁) (v : SpreadAs m Multiple r b e R₁ P₁ Q₁ t₁ R₂ P₂ Q₂ g t₂) where
      abbrev first : Spread (λ q d. Between Q a h q × ByRest Single m q d) r R P Q e R₁ P₁ Q₁ t₁
      first = u.going.spread

      -- the queue and its weights under the second head
      under : (j : ℕ) → j < e → get_or R₁ (get_or Q₁ j 0) 0 ≡ get_or R (get_or Q j 0) 0
      under j l = spread_kept x.room first j l

      single : Head 1 r R Q a h e
      single = record { from = u.going.from; to = u.going.to; over = u.going.over; stop = u.stop; bound = y.one }

      many : Head (suc extra) r R Q b g e
      many = record {
        from = v.going.from;
        to = v.going.to;
        over = λ j k l. rw (← under j (lt_of_lt_of_le l v.going.to)) (v.going.over j k l);
        stop = λ l f. v.stop l (rw (under g l) f);
        bound = y.many;
      }

      whole_round : Spread (Under ok x.up_to r R P Q a h b g e) r R P Q e R₂ P₂ Q₂ t₂
      whole_round = spread_as to of (spread_then next_small first v.going.spread)
        where
          to : (q c : ℕ) → (Between Q a h q × ByRest Single m q c) ⊎ (Between Q₁ b g q × ByRest Multiple m q c) → Under ok x.up_to r R P Q a h b g e q c
          to q c (inl (j, k)) = inl (j, by_steps m Single q c k)
          to q c (inr ((j, l, o, w), k)) = inr ((j, l, o, sym (first.kept j (lt_of_lt_of_le o v.going.to)) ∙ w), by_steps m Multiple q c k)

          of : (q c : ℕ) → Under ok x.up_to r R P Q a h b g e q c → (Between Q a h q × ByRest Single m q c) ⊎ (Between Q₁ b g q × ByRest Multiple m q c)
          of q c (inl (j, k)) = inl (j, steps_by_lem m alters Single q c k)
          of q c (inr ((j, l, o, w), k)) = inr ((j, l, o, first.kept j (lt_of_lt_of_le o v.going.to) ∙ w), steps_by_lem m alters Multiple q c k)

      -- the next round begins
      pub progress_next : Progress m R₂ P₂ Q₂ h g t₂
      progress_next =
          let z = spread_round unused whole_round in
          record {
            up_to = r;
            small = next_small;
            level = round_level ok x.up_to r R P Q a h b g e x.level x.small x.heads single many higher next_small x.total z;
            heads = round_heads ok x.up_to r R P Q a h b g e x.level x.small x.heads single many higher next_small x.total z;
            room = whole_round.room;
            total = whole_round.same_length ∙ x.total;
            a_in = omega (arith, u.going.to, whole_round.more);
            b_in = omega (arith, v.going.to, whole_round.more);
            orphan = λ c l. orphan c (rw whole_round.same_length at l) (z.expanded c (rw whole_round.same_length at l));
          }
        where
          orphan : (c : ℕ) → c < length R → Expanded (Under ok x.up_to r R P Q a h b g e) r R P R₂ P₂ c → (get_or R₂ c 0 ≡ 0) ⊎ (get_or R₂ c 0 ≡ unweighed) → get_or P₂ c 0 ≡ 0
          orphan c l (had ne i j) w = j ∙ x.orphan c l (⊎_elim (λ k. inl (sym i ∙ k)) (λ k. inr (sym i ∙ k)) w)
          orphan c l (got i o k n) w = absurd (⊎_elim (λ (k : get_or R₂ c 0 ≡ 0). omega (arith, higher)) (λ (k : get_or R₂ c 0 ≡ unweighed). omega (arith, next_small)) w)
          orphan c l (left i k n o) w = o ∙ x.orphan c l (inr i)

      -- one of the heads has moved
      pub progress_moves : a + b < h + g
      progress_moves = ⊎_elim
          (λ (l, f). omega (arith, head_moves single l f, v.going.from))
          (λ (l, f). omega (arith, head_moves many l f, u.going.from))
          y.is
