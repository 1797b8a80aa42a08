-- A setting with one input flipped differs in that input alone, and two settings that differ in one input are such: by induction on the
-- number of inputs.
use mathlib.Core.Path.{◌≡◌, refl, sym, ap, ◌∙◌}
use mathlib.Core.Logic.{⊎_elim}
use Prim.Native.Nat.{ℕ, zero, suc, ◌+◌, ◌*◌, ◌-◌, ◌/◌, ◌%◌, ◌^◌, ◌≤◌, ◌<◌}
use native.Mathlib.Nat.{mod-lt, div-lt_iff_lt-mul, div-eq_of_lt, mod-eq_of_lt, div-add-mod', add-mul, one-mul}
use native.Mathlib.Numerals.{add-one}
use native.Mathlib.Omega.{arith}
use lib.Dec.{eqb}
use lib.Pow.{pow_pos, high, low, field, mod-mod-pow, shr-shr}
use borrow.Author.Tests.{eq-eqb, ne_eqb}
use Rattle.sets.proofs.Members.{same_bits}
use Rattle.machine.specs.Couples.{input, differing}
use Rattle.machine.specs.inner.Flips.{flipped}
use Rattle.machine.proofs.Order.{below_or, equal_or}
use mathlib.Core.Bool.{cond}

-- input i of the low part is the whole's
low_input : (v n i : ℕ) → i < n → input (v % 2 ^ n) i ≡ input v i
low_input v n i l =
    let e : n ≡ ((n - suc i) + 1) + i = omega arith in
    rw e (rw field (mod-mod-pow (v / 2 ^ i) (n - suc i) 1))

toggled : ℕ → ℕ
toggled q = cond (eqb (q % 2) 0) (q + 1) (q - 1)

toggled_half : (q : ℕ) → toggled q / 2 ≡ q / 2
unfolding toggled
toggled_half q = ⊎_elim (λ e. rw (eq-eqb (q % 2) 0 e) (omega arith)) (λ e. rw (ne_eqb (q % 2) 0 e) (omega arith)) (equal_or (q % 2) 0)

toggled_low : (q : ℕ) → q % 2 ≡ toggled q % 2 → ⊥
unfolding toggled
toggled_low q = ⊎_elim (λ e. rw (eq-eqb (q % 2) 0 e) (omega arith)) (λ e. rw (ne_eqb (q % 2) 0 e) (omega arith)) (equal_or (q % 2) 0)

flipped_is : (v i : ℕ) → flipped v (2 ^ i) ≡ toggled (v / 2 ^ i) * 2 ^ i + v % 2 ^ i
unfolding flipped toggled
flipped_is v i =
    let q = v / 2 ^ i in
    let whole : q * 2 ^ i + v % 2 ^ i ≡ v = div-add-mod' v (2 ^ i) in
    ⊎_elim
    (λ e. rw (eq-eqb (q % 2) 0 e) (omega (arith, add-mul q 1 (2 ^ i))))
    (λ e. rw (ne_eqb (q % 2) 0 e) (omega (arith, add-mul (q - 1) 1 (2 ^ i), ap (λ (x : ℕ). x * 2 ^ i) (back q e))))
    (equal_or (q % 2) 0)
  where
    back : (q : ℕ) → (q % 2 ≡ 0 → ⊥) → q - 1 + 1 ≡ q
    back q e = omega arith

module _ (v i : ℕ) where
  turned : ℕ
  turned = flipped v (2 ^ i)

  flipped_shifted : turned / 2 ^ i ≡ toggled (v / 2 ^ i)
  unfolding turned
  flipped_shifted = rw flipped_is (high _ i (mod-lt v (pow_pos i)))

  flipped_rest : turned % 2 ^ i ≡ v % 2 ^ i
  unfolding turned
  flipped_rest = rw flipped_is (low _ i (mod-lt v (pow_pos i)))

  flipped_above : turned / 2 ^ suc i ≡ v / 2 ^ suc i
  unfolding turned
  flipped_above =
      let step : (x : ℕ) → x / 2 ^ suc i ≡ x / 2 ^ i / 2 = λ x. rw (← add-one i) (sym (shr-shr x i 1)) in
      rw (step turned, step v, flipped_shifted) (toggled_half (v / 2 ^ i))

  flipped_here : input v i ≡ input turned i → ⊥
  flipped_here = rw flipped_shifted (toggled_low (v / 2 ^ i))

  flipped_other : (j : ℕ) → (j ≡ i → ⊥) → input v j ≡ input turned j
  flipped_other j ne = ⊎_elim below above (below_or j i)
    where
      below : j < i → input v j ≡ input turned j
      below l = sym (low_input v i j l) ∙ (rw (← flipped_rest) (low_input turned i j l))

      above : i ≤ j → input v j ≡ input turned j
      above l =
          let e : j ≡ suc i + (j - suc i) = omega arith in
          let step : (x : ℕ) → x / 2 ^ j ≡ x / 2 ^ suc i / 2 ^ (j - suc i) = λ x. (ap (λ (k : ℕ). x / 2 ^ k) e) ∙ sym (shr-shr x (suc i) (j - suc i)) in
          rw (step v, step turned, flipped_above)

  flipped_small : (n : ℕ) → i < n → v < 2 ^ n → turned < 2 ^ n
  flipped_small n l h =
      let e : n ≡ suc i + (n - suc i) = omega arith in
      let step : (x : ℕ) → x / 2 ^ n ≡ x / 2 ^ suc i / 2 ^ (n - suc i) = λ x. (ap (λ (k : ℕ). x / 2 ^ k) e) ∙ sym (shr-shr x (suc i) (n - suc i)) in
      let z : turned / 2 ^ n ≡ 0 = rw (step turned, flipped_above, ← step v) (div-eq_of_lt h) in
      rw one-mul at ((div-lt_iff_lt-mul {x = turned} {y = 1} (pow_pos n)).0 (omega arith))

-- where two settings agree at each of n inputs, and where they differ at one of them alone
agree_none : (n v w : ℕ) → ((j : ℕ) → j < n → input v j ≡ input w j) → differing n v w ≡ 0
unfolding differing
agree_none zero v w all = refl
agree_none (suc n) v w all = rw (eq-eqb (input v n) (input w n) (all n (omega arith)), agree_none n v w (λ j l. all j (omega arith)))

differ_one : (n v w i : ℕ) → i < n → (input v i ≡ input w i → ⊥) → ((j : ℕ) → (j ≡ i → ⊥) → input v j ≡ input w j) → differing n v w ≡ 1
unfolding differing
differ_one zero v w i l here other = absurd (omega arith)
differ_one (suc n) v w i l here other = ⊎_elim
    (λ e. rw (ne_eqb (input v n) (input w n) (rw e here), agree_none n v w (λ j k. other j (omega arith))))
    (λ e. rw (eq-eqb (input v n) (input w n) (other n e), differ_one n v w i (omega arith) here other))
    (equal_or n i)

-- one flipped input is one differing input
pub flip_differs : (n v i : ℕ) → i < n → differing n v (flipped v (2 ^ i)) ≡ 1
unfolding turned
flip_differs n v i l = differ_one n v (flipped v (2 ^ i)) i l (flipped_here v i) (flipped_other v i)

pub flip_small : (n v i : ℕ) → i < n → v < 2 ^ n → flipped v (2 ^ i) < 2 ^ n
unfolding turned
flip_small n v i l h = flipped_small v i n l h

none_agree : (n v w : ℕ) → differing n v w ≡ 0 → (j : ℕ) → j < n → input v j ≡ input w j
unfolding differing
none_agree zero v w e j l = absurd (omega arith)
none_agree (suc n) v w e j l = ⊎_elim
    (λ h. ⊎_elim (λ k. rw k h) (λ k. none_agree n v w (omega (arith, rw (eq-eqb (input v n) (input w n) h) at e)) j (omega arith)) (equal_or j n))
    (λ h. absurd (omega (arith, rw (ne_eqb (input v n) (input w n) h) at e)))
    (equal_or (input v n) (input w n))

-- settings that differ in no input are one
pub none_differ : (n v w : ℕ) → v < 2 ^ n → w < 2 ^ n → differing n v w ≡ 0 → v ≡ w
none_differ n v w h k e = sym (mod-eq_of_lt h) ∙ same_bits n v w (none_agree n v w e) ∙ mod-eq_of_lt k

pub record OneDiffers (n v w : ℕ) : Type 0 where
  pub at : ℕ
  pub low : at < n
  pub here : input v at ≡ input w at → ⊥
  pub other : (j : ℕ) → j < n → (j ≡ at → ⊥) → input v j ≡ input w j

one_differs : (n v w : ℕ) → differing n v w ≡ 1 → OneDiffers n v w
unfolding differing
one_differs zero v w e = absurd (omega arith)
one_differs (suc n) v w e = ⊎_elim
    (λ h. further h (one_differs n v w (omega (arith, rw (eq-eqb (input v n) (input w n) h) at e))))
    (λ h. record {
      at = n;
      low = omega arith;
      here = h;
      other = λ j l ne. none_agree n v w (omega (arith, rw (ne_eqb (input v n) (input w n) h) at e)) j (omega arith);
    })
    (equal_or (input v n) (input w n))
  where
    further : input v n ≡ input w n → OneDiffers n v w → OneDiffers (suc n) v w
    further h o = record {
      at = o.at;
      low = omega arith;
      here = o.here;
      other = λ j l ne. ⊎_elim (λ k. rw k h) (λ k. o.other j (omega arith) ne) (equal_or j n);
    }

-- one differing input is one flipped input
pub differs_flip : (n v w : ℕ) → v < 2 ^ n → w < 2 ^ n → differing n v w ≡ 1 → (i : ℕ) × (i < n) × (w ≡ flipped v (2 ^ i))
unfolding turned
differs_flip n v w hv hw e = (i, o.low, sym (mod-eq_of_lt hw) ∙ same_bits n w f all ∙ mod-eq_of_lt (flip_small n v i o.low hv))
  where
    o : OneDiffers n v w
    o = one_differs n v w e

    i : ℕ
    i = o.at

    f : ℕ
    f = flipped v (2 ^ i)

    binary : (a b c : ℕ) → a < 2 → b < 2 → c < 2 → (a ≡ b → ⊥) → (a ≡ c → ⊥) → b ≡ c
    binary a b c x y z p q = omega arith

    all : (j : ℕ) → j < n → input w j ≡ input f j
    all j l = ⊎_elim
        (λ k. rw k (binary (input v i) _ _ (mod-lt _ (omega arith)) (mod-lt _ (omega arith)) (mod-lt _ (omega arith)) o.here (flipped_here v i)))
        (λ k. sym (o.other j l k) ∙ flipped_other v i j k)
        (equal_or j i)
