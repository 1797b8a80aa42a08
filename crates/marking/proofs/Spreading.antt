-- Offers from several couples, one after the other: each further couple's offers join those before, and so do those of further couples
-- together. What has a weight keeps it.
use mathlib.Core.Path.{◌≡◌, refl, sym, ap, subst, ◌∙◌}
use mathlib.Core.Logic.{◌⊎◌, ⊎_elim, inl, inr}
use mathlib.Core.List.{List}
use Prim.Native.Nat.{ℕ, ◌<◌}
use native.Mathlib.Nat.{le_refl, lt_of_lt_of_le}
use native.Mathlib.Omega.{arith}
use lib.ListN.{get_or, length}
use Rattle.machine.proofs.Order.{equal_or}
use Rattle.several.specs.Weights.{unweighed}
use Rattle.marking.specs.inner.Queue.{Offer, Offers, Room, Pushed, Spread, Expanded, Spreads}
use Rattle.marking.specs.inner.Queue.Offer.{given as gives, lower as lowers, same as keeps}
use Rattle.marking.specs.inner.Queue.Offers.{given, lower, same}
use Rattle.marking.specs.inner.Queue.Expanded.{had, got, left}

module _ {r : ℕ} {R P : List ℕ} where
  offers_none : {A : ℕ → ℕ → Type 0} {c : ℕ} → ((q : ℕ) → A q c → ⊥) → Offers A r R P R P c
  offers_none n = same (λ q a. absurd (n q a)) (λ q a. absurd (n q a)) refl refl

  -- one couple's offer
  offers_one : {To : ℕ → Type 0} {p : ℕ} {R₁ P₁ : List ℕ} {c : ℕ} → Offer To r p R P R₁ P₁ c → Offers (λ q d. (q ≡ p) × To d) r R P R₁ P₁ c
  offers_one (gives b e f g) = given e (g, b) (λ q a. omega (arith, a.0)) f
  offers_one (lowers b e l f g) = lower e (g, b) (omega arith) (λ q a. omega (arith, a.0)) f
  offers_one (keeps n o f g) = same (λ q a. n a.1) (λ q a e. omega (arith, a.0, o a.1 e)) f g

  offers_then : {A B : ℕ → ℕ → Type 0} {R₁ P₁ R₂ P₂ : List ℕ} {c : ℕ} → r < unweighed
      → Offers A r R P R₁ P₁ c → Offers B r R₁ P₁ R₂ P₂ c → Offers (λ q d. A q d ⊎ B q d) r R P R₂ P₂ c
  offers_then h (given e a m f) (given i b n j) = absurd (omega arith)
  offers_then h (given e a m f) (lower i b l n j) = given e (inr b) (λ q w. ⊎_elim (λ x. omega (arith, m q x)) (λ x. n q x) w) j
  offers_then {A = A} {c = c} h (given e a m f) (same n o j k) = given e (inl (subst (λ (q : ℕ). A q c) (sym k) a)) (λ q w. ⊎_elim (λ x. omega (arith, m q x)) (λ x. omega (arith, o q x f)) w) (j ∙ f)
  offers_then h (lower e a l m f) (given i b n j) = absurd (omega arith)
  offers_then h (lower e a l m f) (lower i b u n j) = lower e (inr b) (omega arith) (λ q w. ⊎_elim (λ x. omega (arith, m q x)) (λ x. n q x) w) j
  offers_then {A = A} {c = c} h (lower e a l m f) (same n o j k) =
      lower e (inl (subst (λ (q : ℕ). A q c) (sym k) a)) (omega arith) (λ q w. ⊎_elim (λ x. omega (arith, m q x)) (λ x. omega (arith, o q x f)) w) (j ∙ f)
  offers_then h (same u v f g) (given i b n j) = given (sym f ∙ i) (inr b) (λ q w. ⊎_elim (λ x. absurd (u q x (sym f ∙ i))) (λ x. n q x) w) j
  offers_then h (same u v f g) (lower i b l n j) = lower (sym f ∙ i) (inr b) (omega arith) (λ q w. ⊎_elim (λ x. omega (arith, v q x (sym f ∙ i))) (λ x. n q x) w) j
  offers_then h (same u v f g) (same n o j k) = same
      (λ q w e. ⊎_elim (λ x. u q x e) (λ x. n q x (f ∙ e)) w)
      (λ q w e. ⊎_elim (λ x. v q x e) (λ x. omega (arith, o q x (f ∙ e))) w) (j ∙ f) (k ∙ g)

  offers_as : {A B : ℕ → ℕ → Type 0} {R₁ P₁ : List ℕ} {c : ℕ} → ((q : ℕ) → A q c → B q c) → ((q : ℕ) → B q c → A q c) → Offers A r R P R₁ P₁ c → Offers B r R P R₁ P₁ c
  offers_as to of (given e a m f) = given e (to _ a) (λ q b. m q (of q b)) f
  offers_as to of (lower e a l m f) = lower e (to _ a) l (λ q b. m q (of q b)) f
  offers_as to of (same n o f g) = same (λ q b. n q (of q b)) (λ q b. o q (of q b)) f g

  -- what has a weight keeps it
  offers_kept : {A : ℕ → ℕ → Type 0} {R₁ P₁ : List ℕ} {c : ℕ} → (get_or R c 0 ≡ unweighed → ⊥) → Offers A r R P R₁ P₁ c → get_or R₁ c 0 ≡ get_or R c 0
  offers_kept n (given e a m f) = absurd (n e)
  offers_kept n (lower e a l m f) = f ∙ sym e
  offers_kept n (same u v f g) = f

  -- where no couple had weight r before
  offers_expanded : {A : ℕ → ℕ → Type 0} {R₁ P₁ : List ℕ} {c : ℕ} → (get_or R c 0 ≡ r → ⊥) → Offers A r R P R₁ P₁ c → Expanded A r R P R₁ P₁ c
  offers_expanded n (given e a m f) = got e a m f
  offers_expanded n (lower e a l m f) = absurd (n e)
  offers_expanded {c = c} n (same u v f g) = ⊎_elim (λ e. left e (λ q a. u q a e) (f ∙ e) g) (λ e. had e f g) (equal_or (get_or R c 0) unweighed)

module _ {r : ℕ} {R P Q : List ℕ} {tail : ℕ} where
  pub spread_none : {A : ℕ → ℕ → Type 0} → Room R P Q tail → ((q c : ℕ) → A q c → ⊥) → Spread A r R P Q tail R P Q tail
  spread_none x n = record { room = x; same_length = refl; fresh = λ a f. f; more = le_refl _; kept = λ i l. refl; offers = λ c. offers_none (λ q. n q c) }

  pub spread_then : {A B : ℕ → ℕ → Type 0} {R₁ P₁ Q₁ R₂ P₂ Q₂ : List ℕ} {t₁ t₂ : ℕ} → r < unweighed
      → Spread A r R P Q tail R₁ P₁ Q₁ t₁ → Spread B r R₁ P₁ Q₁ t₁ R₂ P₂ Q₂ t₂ → Spread (λ q d. A q d ⊎ B q d) r R P Q tail R₂ P₂ Q₂ t₂
  spread_then h x y = record {
    room = y.room;
    same_length = y.same_length ∙ x.same_length;
    fresh = λ a f. y.fresh a (x.fresh a f);
    more = omega (arith, x.more, y.more);
    kept = λ i l. y.kept i (lt_of_lt_of_le l x.more) ∙ x.kept i l;
    offers = λ c. offers_then h (x.offers c) (y.offers c);
  }

  pub spread_as : {A B : ℕ → ℕ → Type 0} {R₁ P₁ Q₁ : List ℕ} {t₁ : ℕ} → ((q c : ℕ) → A q c → B q c) → ((q c : ℕ) → B q c → A q c) → Spread A r R P Q tail R₁ P₁ Q₁ t₁ → Spread B r R P Q tail R₁ P₁ Q₁ t₁
  spread_as to of x = record { room = x.room; same_length = x.same_length; fresh = x.fresh; more = x.more; kept = x.kept; offers = λ c. offers_as (λ q. to q c) (λ q. of q c) (x.offers c) }

  pub spread_one : {To : ℕ → Type 0} {p : ℕ} {R₁ P₁ Q₁ : List ℕ} {t₁ : ℕ} → Pushed To r p R P Q tail R₁ P₁ Q₁ t₁ → Spread (λ q d. (q ≡ p) × To d) r R P Q tail R₁ P₁ Q₁ t₁
  spread_one x = record { room = x.room; same_length = x.same_length; fresh = x.fresh; more = x.more; kept = x.kept; offers = λ c. offers_one (x.offer c) }

  -- a whole round
  pub spread_round : {A : ℕ → ℕ → Type 0} {R₁ P₁ Q₁ : List ℕ} {t₁ : ℕ} → ((c : ℕ) → c < length R → get_or R c 0 ≡ r → ⊥) → Spread A r R P Q tail R₁ P₁ Q₁ t₁ → Spreads A r tail R P Q R₁ P₁ Q₁ t₁
  spread_round n x = record {
    room = x.room;
    same_length = x.same_length;
    fresh = x.fresh tail (record { from = le_refl tail; new = λ i l h. absurd (omega arith); all = λ c l f. absurd (n c l f) });
    kept = x.kept;
    expanded = λ c l. offers_expanded (n c l) (x.offers c);
  }

  -- the weights of what stands in the queue
  pub spread_kept : {A : ℕ → ℕ → Type 0} {R₁ P₁ Q₁ : List ℕ} {t₁ : ℕ} → Room R P Q tail → Spread A r R P Q tail R₁ P₁ Q₁ t₁ → (i : ℕ) → i < tail → get_or R₁ (get_or Q₁ i 0) 0 ≡ get_or R (get_or Q i 0) 0
  spread_kept {R₁ = R₁} room x i l = ap (λ (c : ℕ). get_or R₁ c 0) (x.kept i l) ∙ offers_kept (room.marked i l) (x.offers (get_or Q i 0))
