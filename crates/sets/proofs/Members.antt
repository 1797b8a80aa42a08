-- The members of a set, over the number of its words: a word's bits say which of its settings are members, so that there is none beyond
-- the words, one more where a bit is set, and no two sets have the same members.
use mathlib.Core.Path.{◌≡◌, refl, sym, ap, ap₂, ◌∙◌}
use mathlib.Core.Logic.{⊎_elim}
use mathlib.Core.Bool.{false, ◌||◌}
use mathlib.Core.List.{List}
use Prim.Native.Nat.{ℕ, zero, suc, ◌+◌, ◌*◌, ◌-◌, ◌/◌, ◌%◌, ◌^◌, ◌≤◌, ◌<◌}
use native.Mathlib.Nat.{zero-div, mod-lt, mod-eq_of_lt, div-eq_of_lt, pow-suc, one-mul, mul-mod_left}
use native.Mathlib.Numerals.{one-add}
use native.Mathlib.Omega.{arith}
use lib.ListN.{length, get_or, set, replicate, get_or-eq_default}
use lib.Seq.{get_or-set_same, get_or-set_other, ext_get_or}
use lib.Dec.{eqb}
use lib.Bits.{bit_or, or_shr, or_mod}
use lib.Pow.{pow-lt, pow-add, shl-shr, mod-pow-add}
use borrow.Author.Tests.{eq-eqb, ne_eqb}
use Rattle.verdict.proofs.Tests.{true≢false, decides_or, decides_equal, decides_below}
use Rattle.sets.specs.Sets.{member, Words}

-- a setting beyond the words is no member
pub member_beyond : (s : List ℕ) (v : ℕ) → 64 * length s ≤ v → member s v ≡ false
member_beyond s v h = rw (get_or-eq_default s 0 {n = v / 64} (omega arith), zero-div) refl

-- nor is any of a set without a bit
pub zeros : (n i : ℕ) → ◌≡◌ {A = ℕ} (get_or (replicate n 0) i 0) 0
zeros zero i = refl
zeros (suc n) zero = refl
zeros (suc n) (suc i) = zeros n i

pub member_none : (n v : ℕ) → member (replicate n 0) v ≡ false
member_none n v = rw (zeros n (v / 64), zero-div) refl

-- what holds of each two bits holds of any two numbers below 2
pub bit_pairs : (P : ℕ → ℕ → Type 0) → P 0 0 → P 0 1 → P 1 0 → P 1 1 → (x y : ℕ) → x < 2 → y < 2 → P x y
bit_pairs P a b c d zero zero h k = a
bit_pairs P a b c d zero (suc zero) h k = b
bit_pairs P a b c d (suc zero) zero h k = c
bit_pairs P a b c d (suc zero) (suc zero) h k = d
bit_pairs P a b c d zero (suc (suc y)) h k = absurd (omega arith)
bit_pairs P a b c d (suc zero) (suc (suc y)) h k = absurd (omega arith)
bit_pairs P a b c d (suc (suc x)) y h k = absurd (omega arith)

or_table : (x y : ℕ) → x < 2 → y < 2 → eqb (bit_or x y) 1 ≡ eqb y 1 || eqb x 1
or_table = bit_pairs (λ (x y : ℕ). eqb (bit_or x y) 1 ≡ eqb y 1 || eqb x 1) refl refl refl refl

or_bit : (a b i : ℕ) → eqb (bit_or a b / 2 ^ i % 2) 1 ≡ eqb (b / 2 ^ i % 2) 1 || eqb (a / 2 ^ i % 2) 1
or_bit a b i =
    let x = a / 2 ^ i in
    let y = b / 2 ^ i in
    ap (λ (z : ℕ). eqb (z % 2) 1) (or_shr a b i) ∙ ap (λ (z : ℕ). eqb z 1) (or_mod x y 1) ∙ or_table (x % 2) (y % 2) (omega arith) (omega arith)

-- of a power of 2, one bit alone is 1
power_bit : (k j : ℕ) → eqb (2 ^ k / 2 ^ j % 2) 1 ≡ eqb j k
power_bit k j = ⊎_elim below above (decides_or (decides_below j k))
  where
    below : j < k → eqb (2 ^ k / 2 ^ j % 2) 1 ≡ eqb j k
    below l =
        let e : k ≡ suc (k - suc j) + j = omega arith in
        let f : 2 ^ k / 2 ^ j ≡ 2 ^ (k - suc j) * 2 = ap (λ (x : ℕ). 2 ^ x / 2 ^ j) e ∙ rw pow-add (shl-shr (2 ^ suc (k - suc j)) j) ∙ pow-suc 2 (k - suc j) in
        rw (f, mul-mod_left, ne_eqb j k (omega arith)) refl

    above : (j < k → ⊥) → eqb (2 ^ k / 2 ^ j % 2) 1 ≡ eqb j k
    above l = ⊎_elim
        (λ e. let f : 2 ^ k / 2 ^ j ≡ 1 = rw e (ap (λ (x : ℕ). x / 2 ^ k) (sym (one-mul (2 ^ k))) ∙ shl-shr 1 k) in rw (f, eq-eqb j k e) refl)
        (λ (e : j ≡ k → ⊥). rw (div-eq_of_lt (pow-lt {i = k} {j = j} (omega arith)), ne_eqb j k e) refl)
        (decides_or (decides_equal j k))

module _ (s : List ℕ) (u : ℕ) (h : u < 64 * length s) where
  bit : 1 * 2 ^ (u % 64) % 2 ^ 64 ≡ 2 ^ (u % 64)
  bit = rw one-mul (mod-eq_of_lt (pow-lt {i = u % 64} {j = 64} (omega arith)))

  pub member_set : (v : ℕ) → member (set s (u / 64) (bit_or (get_or s (u / 64) 0) (1 * 2 ^ (u % 64) % 2 ^ 64))) v ≡ eqb v u || member s v
  member_set v = ⊎_elim here other (decides_or (decides_equal (v / 64) (u / 64)))
    where
      word : ℕ
      word = bit_or (get_or s (u / 64) 0) (1 * 2 ^ (u % 64) % 2 ^ 64)

      places : v / 64 ≡ u / 64 → eqb (v % 64) (u % 64) ≡ eqb v u
      places e = ⊎_elim
          (λ f. rw (eq-eqb (v % 64) (u % 64) f, eq-eqb v u (omega arith)) refl)
          (λ (f : v % 64 ≡ u % 64 → ⊥). rw (ne_eqb (v % 64) (u % 64) f, ne_eqb v u (λ g. f (ap (λ (x : ℕ). x % 64) g))) refl)
          (decides_or (decides_equal (v % 64) (u % 64)))

      here : v / 64 ≡ u / 64 → member (set s (u / 64) word) v ≡ eqb v u || member s v
      here e =
          let g : get_or (set s (u / 64) word) (v / 64) 0 ≡ word = rw e (get_or-set_same s (u / 64) word 0 (omega arith)) in
          ap (λ (x : ℕ). eqb (x / 2 ^ (v % 64) % 2) 1) g ∙ or_bit _ _ (v % 64)
          ∙ ap₂ ◌||◌ (ap (λ (x : ℕ). eqb (x / 2 ^ (v % 64) % 2) 1) bit ∙ power_bit (u % 64) (v % 64) ∙ places e) (ap (λ (x : ℕ). eqb (get_or s x 0 / 2 ^ (v % 64) % 2) 1) (sym e))

      other : (v / 64 ≡ u / 64 → ⊥) → member (set s (u / 64) word) v ≡ eqb v u || member s v
      other e = rw (get_or-set_other s (u / 64) (v / 64) word 0 e, ne_eqb v u (λ f. e (ap (λ (x : ℕ). x / 64) f))) refl

-- the low bits of a number are one bit more above those before
pub low_bits : (x n : ℕ) → x % 2 ^ suc n ≡ x / 2 ^ n % 2 * 2 ^ n + x % 2 ^ n
low_bits x n = rw (← one-add n) (mod-pow-add x 1 n)

-- numbers that agree at each of n bits agree below 2 ^ n
pub same_bits : (n a b : ℕ) → ((j : ℕ) → j < n → a / 2 ^ j % 2 ≡ b / 2 ^ j % 2) → a % 2 ^ n ≡ b % 2 ^ n
same_bits zero a b all = omega arith
same_bits (suc n) a b all =
    rw (low_bits a n, low_bits b n) (ap₂ (λ (x y : ℕ). x * 2 ^ n + y) (all n (omega arith)) (same_bits n a b (λ j l. all j (omega arith))))

told_one : (x y : ℕ) → x < 2 → y < 2 → eqb x 1 ≡ eqb y 1 → x ≡ y
told_one = bit_pairs (λ (x y : ℕ). eqb x 1 ≡ eqb y 1 → x ≡ y) (λ e. refl) (λ e. absurd (true≢false (sym e))) (λ e. absurd (true≢false e)) (λ e. refl)

-- two sets with the same members are one
pub set_only : {n : ℕ} {r s : List ℕ} → Words n r → Words n s → ((v : ℕ) → member r v ≡ member s v) → r ≡ s
set_only {n} {r} {s} x y all = ext_get_or 0 r s (x.count ∙ sym y.count) (λ i h. word i (rw (← x.count) h))
  where
    each : (i j : ℕ) → j < 64 → get_or r i 0 / 2 ^ j % 2 ≡ get_or s i 0 / 2 ^ j % 2
    each i j k =
        let e : (64 * i + j) / 64 ≡ i = omega arith in
        let f : (64 * i + j) % 64 ≡ j = omega arith in
        told_one _ _ (mod-lt _ (omega arith)) (mod-lt _ (omega arith)) (rw (e, f) at (all (64 * i + j)))

    word : (i : ℕ) → i < n → get_or r i 0 ≡ get_or s i 0
    word i h = sym (mod-eq_of_lt (x.small i h)) ∙ same_bits 64 (get_or r i 0) (get_or s i 0) (λ j k. each i j k) ∙ mod-eq_of_lt (y.small i h)
