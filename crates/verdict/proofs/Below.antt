-- The laws of a test, a sum, a list and lists end to end over the numbers below n: each by the law of one more number, and by induction on n.
use mathlib.Core.Path.{◌≡◌, refl, sym, ap, subst, ◌∙◌}
use mathlib.Core.Bool.{Bool, true, false}
use mathlib.Core.List.{List, ◌++◌, append_assoc}
use mathlib.Core.Logic.{⊎_elim}
use Prim.Native.Nat.{ℕ, zero, suc, ◌+◌, ◌*◌, ◌≤◌, ◌<◌}
use native.Mathlib.Omega.{arith}
use native.Mathlib.Numerals.{add-one}
use native.Mathlib.Nat.{zero-mul, suc-mul, not-suc-le-zero, le_of_suc-le-suc, eq-or-lt_of_le}
use lib.ListN.{length, get_or, length-append}
use lib.Seq.{ext_get_or}
use Rattle.verdict.specs.Checks.{Decides}
use Rattle.verdict.specs.Below.{every, sum_to, list_to, join_to}
use Rattle.verdict.proofs.Tests.{true≢false, it_holds, it_fails, decides_map, decides_true, decides_is, decides_unique, ◌also◌}

-- ---- a test of each
pub decides_every : (n : ℕ) (f : ℕ → Bool) (P : ℕ → Type 0) → ((i : ℕ) → Decides (P i) (f i)) → Decides ((i : ℕ) → i < n → P i) (every n f)
unfolding every
decides_every zero f P each = it_holds (λ i l. absurd (omega arith))
decides_every (suc n) f P each = decides_map
    (λ x i l. ⊎_elim (λ e. subst P (sym e) x.0) (λ (e : i < n). x.1 i e) (eq-or-lt_of_le (le_of_suc-le-suc l)))
    (λ x. (x n (omega arith), λ i l. x i (omega arith)))
    (each n also decides_every n f P each)

module _ (n : ℕ) (f : ℕ → Bool) where
  tests : Decides ((i : ℕ) → i < n → f i ≡ true) (every n f)
  tests = decides_every n f (λ i. f i ≡ true) (λ i. decides_true (f i))

  pub all_pass : ((i : ℕ) → i < n → f i ≡ true) → true ≡ every n f
  all_pass h = sym (decides_is tests h)

  pub one_fails : (i : ℕ) → i < n → f i ≡ false → false ≡ every n f
  one_fails i l e = decides_unique _ false (every n f) (it_fails (λ all. true≢false (sym (all i l) ∙ e))) tests

-- ---- sums
pub sum_more : (f : ℕ → ℕ) (n : ℕ) → sum_to f (n + 1) ≡ sum_to f n + f n
unfolding sum_to
sum_more f n = rw add-one

pub sum_below : (f : ℕ → ℕ) (k n : ℕ) → k < n → sum_to f k + f k ≤ sum_to f n
unfolding sum_to
sum_below f k zero h = absurd (not-suc-le-zero h)
sum_below f k (suc n) h = ⊎_elim (λ e. omega (arith, ap (sum_to f) e, ap f e)) (λ l. omega (arith, sum_below f k n l)) (eq-or-lt_of_le (le_of_suc-le-suc h))

pub sum_le : (f : ℕ → ℕ) (k n : ℕ) → k ≤ n → sum_to f k ≤ sum_to f n
sum_le f k n h = ⊎_elim (λ e. omega (arith, ap (sum_to f) e)) (λ l. omega (arith, sum_below f k n l)) (eq-or-lt_of_le h)

-- of two terms added up
pub sum_plus : (f g h : ℕ → ℕ) (n : ℕ) → ((i : ℕ) → i < n → h i ≡ f i + g i) → sum_to h n ≡ sum_to f n + sum_to g n
unfolding sum_to
sum_plus f g h zero e = refl
sum_plus f g h (suc n) e = omega (arith, e n (omega arith), sum_plus f g h n (λ i l. e i (omega arith)))

-- of zeros
pub sum_none : (f : ℕ → ℕ) (n : ℕ) → ((i : ℕ) → i < n → f i ≡ 0) → sum_to f n ≡ 0
sum_none f n h = omega (arith, sum_plus f f f n (λ i l. omega (arith, h i l)))

-- two sums that differ by c keep to it where the terms are the same
pub sum_on : (f g : ℕ → ℕ) (c m n : ℕ) → m ≤ n → sum_to f m ≡ c + sum_to g m → ((i : ℕ) → m ≤ i → i < n → f i ≡ g i) → sum_to f n ≡ c + sum_to g n
unfolding sum_to
sum_on f g c m zero h e same = let q : m ≡ 0 = omega arith in subst (λ n. sum_to f n ≡ c + sum_to g n) q e
sum_on f g c m (suc n) h e same = ⊎_elim
    (λ q. subst (λ n. sum_to f n ≡ c + sum_to g n) q e)
    (λ l. omega (arith, sum_on f g c m n (le_of_suc-le-suc l) e (λ i a b. same i a (omega arith)), same n (le_of_suc-le-suc l) (omega arith)))
    (eq-or-lt_of_le h)

-- ---- lists
list_length : (f : ℕ → ℕ) (n : ℕ) → length (list_to f n) ≡ n
unfolding list_to
list_length f zero = refl
list_length f (suc n) = ap suc (list_length (λ i. f (suc i)) n)

pub list_at : (f : ℕ → ℕ) (n i : ℕ) → i < n → get_or (list_to f n) i 0 ≡ f i
unfolding list_to
list_at f zero i h = absurd (not-suc-le-zero h)
list_at f (suc n) zero h = refl
list_at f (suc n) (suc i) h = list_at (λ k. f (suc k)) n i (le_of_suc-le-suc h)

-- a list of n numbers whose elements are these, and two such lists
pub list_is : (xs : List ℕ) (f : ℕ → ℕ) (n : ℕ) → length xs ≡ n → ((i : ℕ) → i < n → get_or xs i 0 ≡ f i) → xs ≡ list_to f n
list_is xs f n e h =
    ext_get_or 0 xs (list_to f n) (e ∙ sym (list_length f n))
    (λ i l. let q : i < n = omega (arith, e) in h i q ∙ sym (list_at f n i q))

pub list_same : (f g : ℕ → ℕ) (n : ℕ) → ((i : ℕ) → i < n → f i ≡ g i) → list_to f n ≡ list_to g n
list_same f g n h = list_is (list_to f n) g n (list_length f n) (λ i l. list_at f n i l ∙ h i l)

-- ---- lists end to end
module _ (f : ℕ → List ℕ) where
  pub join_length : (h : ℕ → ℕ) (n : ℕ) → ((i : ℕ) → i < n → h i ≡ length (f i)) → sum_to h n ≡ length (join_to f n)
  unfolding join_to sum_to
  join_length h zero e = refl
  join_length h (suc n) e = omega (arith, join_length h n (λ i l. e i (omega arith)), e n (omega arith), length-append (join_to f n) (f n))

  -- of one length
  pub join_even : (b n : ℕ) → ((i : ℕ) → length (f i) ≡ b) → length (join_to f n) ≡ n * b
  unfolding join_to
  join_even b zero e = sym (zero-mul b)
  join_even b (suc n) e = omega (arith, join_even b n e, e n, length-append (join_to f n) (f n), suc-mul n b)

  -- each stands behind those before it
  pub join_at : (n i : ℕ) (v : List ℕ) → i < n → (u : List ℕ) × (join_to f n ++ v ≡ join_to f i ++ (f i ++ u))
  unfolding join_to
  join_at zero i v h = absurd (not-suc-le-zero h)
  join_at (suc n) i v h =
      let e = append_assoc (join_to f n) (f n) v in
      ⊎_elim
      (λ q. (v, e ∙ ap (λ j. join_to f j ++ (f j ++ v)) (sym q)))
      (λ l. let (u, d) = join_at n i (f n ++ v) l in (u, e ∙ d))
      (eq-or-lt_of_le (le_of_suc-le-suc h))
