-- What offers do to the weights, the parents and the queue: offers made one after the other are one offer, and a push to a single couple
-- is one, by the cases of its code. There is room in the queue because each couple enters once (pigeonholes).
use mathlib.Core.Path.{◌≡◌, refl, sym, ap, ◌∙◌}
use mathlib.Core.Logic.{◌⊎◌, ⊎_elim, inl, inr}
use mathlib.Core.List.{List}
use Prim.Native.Nat.{ℕ, suc, ◌+◌, ◌≤◌, ◌<◌}
use native.Mathlib.Nat.{le_refl, lt_of_lt_of_le}
use native.Mathlib.Omega.{arith}
use lib.ListN.{get_or, set, length, length-set}
use lib.Seq.{get_or-set_same, get_or-set_other}
use lib.Dec.{eqb}
use borrow.Author.Tests.{eq-eqb, ne_eqb}
use Rattle.machine.specs.Limits.{most_couples}
use Rattle.machine.proofs.Order.{equal_or}
use Rattle.machine.proofs.Small.{pigeons}
use Rattle.several.specs.Weights.{unweighed}
use Rattle.marking.specs.inner.Queue.{Offer, Room, Fresh, Pushed}
use Rattle.marking.specs.inner.Queue.Offer.{given, lower, same}
use mathlib.Core.Bool.{cond}

module _ {r p : ℕ} {R P : List ℕ} where
  offer_none : {A : ℕ → Type 0} {c : ℕ} → (A c → ⊥) → Offer A r p R P R P c
  offer_none n = same (λ a. absurd (n a)) (λ a. absurd (n a)) refl refl

  offer_then : {A B : ℕ → Type 0} {R₁ P₁ R₂ P₂ : List ℕ} {c : ℕ} → r < unweighed
      → Offer A r p R P R₁ P₁ c → Offer B r p R₁ P₁ R₂ P₂ c → Offer (λ d. A d ⊎ B d) r p R P R₂ P₂ c
  offer_then h (given a e f g) (given b i j k) = absurd (omega arith)
  offer_then h (given a e f g) (lower b i l j k) = absurd (omega arith)
  offer_then h (given a e f g) (same n o j k) = given (inl a) e (j ∙ f) (k ∙ g)
  offer_then h (lower a e l f g) (given b i j k) = absurd (omega arith)
  offer_then h (lower a e l f g) (lower b i o j k) = absurd (omega arith)
  offer_then h (lower a e l f g) (same n o j k) = lower (inl a) e l (j ∙ f) (k ∙ g)
  offer_then h (same n o f g) (given b i j k) = given (inr b) (sym f ∙ i) j k
  offer_then h (same n o f g) (lower b i l j k) = lower (inr b) (sym f ∙ i) (omega arith) j k
  offer_then h (same n o f g) (same u v j k) = same
      (λ d e. ⊎_elim (λ a. n a e) (λ b. u b (f ∙ e)) d)
      (λ d e. ⊎_elim (λ a. o a e) (λ b. omega (arith, v b (f ∙ e))) d) (j ∙ f) (k ∙ g)

  offer_as : {A B : ℕ → Type 0} {R₁ P₁ : List ℕ} {c : ℕ} → (A c → B c) → (B c → A c) → Offer A r p R P R₁ P₁ c → Offer B r p R P R₁ P₁ c
  offer_as to of (given a e f g) = given (to a) e f g
  offer_as to of (lower a e l f g) = lower (to a) e l f g
  offer_as to of (same n o f g) = same (λ b e. n (of b) e) (λ b e. o (of b) e) f g

-- there is room for a couple without a weight
pub room_left : {R P Q : List ℕ} {tail : ℕ} → Room R P Q tail → (c : ℕ) → c < length R → get_or R c 0 ≡ unweighed → tail < length R
room_left {R} {P} {Q} {tail} x c l e = pigeons (length R) (suc tail) f below one
  where
    f : ℕ → ℕ
    f i = cond (eqb i tail) c (get_or Q i 0)

    is : (i : ℕ) → i < suc tail → ((i ≡ tail) × (f i ≡ c)) ⊎ ((i < tail) × (f i ≡ get_or Q i 0))
    is i h = ⊎_elim (λ q. inl (q, rw (eq-eqb i tail q) refl)) (λ (q : i ≡ tail → ⊥). inr (omega arith, rw (ne_eqb i tail q) refl)) (equal_or i tail)

    below : (i : ℕ) → i < suc tail → f i < length R
    below i h = ⊎_elim (λ q. rw q.1 l) (λ q. rw q.1 (x.low i q.0)) (is i h)

    new : (i : ℕ) → i < tail → get_or Q i 0 ≡ c → ⊥
    new i h q = x.marked i h (ap (λ (d : ℕ). get_or R d 0) q ∙ e)

    one : (i j : ℕ) → i < suc tail → j < suc tail → f i ≡ f j → i ≡ j
    one i j h k q = ⊎_elim
        (λ a. ⊎_elim (λ b. a.0 ∙ sym b.0) (λ b. absurd (new j b.0 (sym b.1 ∙ sym q ∙ a.1))) (is j k))
        (λ a. ⊎_elim (λ b. absurd (new i a.0 (sym a.1 ∙ q ∙ b.1))) (λ b. x.once i j a.0 b.0 (sym a.1 ∙ q ∙ b.1)) (is j k))
        (is i h)

-- a couple's number, which two bytes hold

pub room_free : {R P Q : List ℕ} {tail : ℕ} → Room R P Q tail → (c : ℕ) → c < length R → get_or R c 0 ≡ unweighed → (tail < length Q) × (tail < most_couples)
room_free x c l e = (omega (arith, room_left x c l e, x.long), omega (arith, room_left x c l e, x.few))

module _ {r p : ℕ} {R P Q : List ℕ} {tail : ℕ} where
  pub pushed_none : {A : ℕ → Type 0} → Room R P Q tail → ((c : ℕ) → A c → ⊥) → Pushed A r p R P Q tail R P Q tail
  pushed_none x n = record { room = x; same_length = refl; fresh = λ a f. f; more = le_refl _; kept = λ i l. refl; offer = λ c. offer_none (n c) }

  pub pushed_as : {A B : ℕ → Type 0} {R₁ P₁ Q₁ : List ℕ} {t₁ : ℕ} → ((c : ℕ) → A c → B c) → ((c : ℕ) → B c → A c)
      → Pushed A r p R P Q tail R₁ P₁ Q₁ t₁ → Pushed B r p R P Q tail R₁ P₁ Q₁ t₁
  pushed_as to of x = record { room = x.room; same_length = x.same_length; fresh = x.fresh; more = x.more; kept = x.kept; offer = λ c. offer_as (to c) (of c) (x.offer c) }

  pub pushed_then : {A B : ℕ → Type 0} {R₁ P₁ Q₁ R₂ P₂ Q₂ : List ℕ} {t₁ t₂ : ℕ} → r < unweighed
      → Pushed A r p R P Q tail R₁ P₁ Q₁ t₁ → Pushed B r p R₁ P₁ Q₁ t₁ R₂ P₂ Q₂ t₂ → Pushed (λ d. A d ⊎ B d) r p R P Q tail R₂ P₂ Q₂ t₂
  pushed_then h x y = record {
    room = y.room;
    same_length = y.same_length ∙ x.same_length;
    fresh = λ a f. y.fresh a (x.fresh a f);
    more = omega (arith, x.more, y.more);
    kept = λ i l. y.kept i (lt_of_lt_of_le l x.more) ∙ x.kept i l;
    offer = λ c. offer_then h (x.offer c) (y.offer c);
  }

  -- a couple that has a weight, which it keeps with its parent

  -- a couple of weight r with a higher parent

  -- a couple without a weight
  pub push_given : (c : ℕ) → Room R P Q tail → c < length R → r < unweighed → get_or R c 0 ≡ unweighed
      → Pushed (λ d. d ≡ c) r p R P Q tail (set R c r) (set P c p) (set Q tail c) (tail + 1)
  push_given c x l k e = record {
    room = record {
      parents_long = rw (length-set, length-set) x.parents_long;
      long = rw (length-set, length-set) x.long;
      few = rw length-set x.few;
      low = λ i o. rw length-set (low i o);
      once = once;
      marked = marked;
    };
    same_length = rw length-set refl;
    fresh = λ a f. record { from = omega (arith, f.from); new = new a f; all = all a f };
    more = omega arith;
    kept = λ i o. get_or-set_other Q tail i c 0 (λ q. omega arith);
    offer = λ d. ⊎_elim
        (λ q. given q (rw q e) (rw q there) (rw q (get_or-set_same P c p 0 (omega (arith, x.parents_long)))))
        (λ q. same (λ g. absurd (q g)) (λ g. absurd (q g)) (get_or-set_other R c d r 0 q) (get_or-set_other P c d p 0 q))
        (equal_or d c);
  }
    where
      there : get_or (set R c r) c 0 ≡ r
      there = get_or-set_same R c r 0 l

      -- each element
      is : (i : ℕ) → i < tail + 1 → ((i ≡ tail) × (get_or (set Q tail c) i 0 ≡ c)) ⊎ ((i < tail) × (get_or (set Q tail c) i 0 ≡ get_or Q i 0) × (get_or Q i 0 ≡ c → ⊥))
      is i o = ⊎_elim
          (λ q. inl (q, rw q (get_or-set_same Q tail c 0 (lt_of_lt_of_le (room_left x c l e) x.long))))
          (λ (q : i ≡ tail → ⊥). let o' : i < tail = omega arith in inr (o', get_or-set_other Q tail i c 0 q, λ g. x.marked i o' (ap (λ (d : ℕ). get_or R d 0) g ∙ e)))
          (equal_or i tail)

      low : (i : ℕ) → i < tail + 1 → get_or (set Q tail c) i 0 < length R
      low i o = ⊎_elim (λ q. rw q.1 l) (λ q. rw q.1 (x.low i q.0)) (is i o)

      once : (i j : ℕ) → i < tail + 1 → j < tail + 1 → get_or (set Q tail c) i 0 ≡ get_or (set Q tail c) j 0 → i ≡ j
      once i j o u q = ⊎_elim
          (λ a. ⊎_elim (λ b. a.0 ∙ sym b.0) (λ b. absurd (b.2 (sym b.1 ∙ sym q ∙ a.1))) (is j u))
          (λ a. ⊎_elim (λ b. absurd (a.2 (sym a.1 ∙ q ∙ b.1))) (λ b. x.once i j a.0 b.0 (sym a.1 ∙ q ∙ b.1)) (is j u))
          (is i o)

      marked : (i : ℕ) → i < tail + 1 → get_or (set R c r) (get_or (set Q tail c) i 0) 0 ≡ unweighed → ⊥
      marked i o = ⊎_elim
          (λ q. rw (q.1, there) (λ (g : r ≡ unweighed). omega arith))
          (λ q. rw (q.1, get_or-set_other R c (get_or Q i 0) r 0 q.2) (x.marked i q.0))
          (is i o)

      new : (a : ℕ) → Fresh r a R Q tail → (i : ℕ) → a ≤ i → i < tail + 1 → get_or (set R c r) (get_or (set Q tail c) i 0) 0 ≡ r
      new a f i b o = ⊎_elim
          (λ q. rw q.1 there)
          (λ q. rw (q.1, get_or-set_other R c (get_or Q i 0) r 0 q.2) (f.new i b q.0))
          (is i o)

      all : (a : ℕ) → Fresh r a R Q tail → (d : ℕ) → d < length (set R c r) → get_or (set R c r) d 0 ≡ r → (i : ℕ) × (a ≤ i) × (i < tail + 1) × (get_or (set Q tail c) i 0 ≡ d)
      all a f d o g = ⊎_elim
          (λ q. (tail, f.from, omega arith, get_or-set_same Q tail c 0 (lt_of_lt_of_le (room_left x c l e) x.long) ∙ sym q))
          (λ q. let (i, u, v, w) = f.all d (rw length-set at o) (sym (get_or-set_other R c d r 0 q) ∙ g) in
          (i, u, omega arith, get_or-set_other Q tail i c 0 (λ y. omega arith) ∙ w))
          (equal_or d c)
