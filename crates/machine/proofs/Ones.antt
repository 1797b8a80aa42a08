-- Of two settings below 2 ^ n, as many inputs differ as the exclusive or has ones: by induction on the number of inputs, the last of which
-- is the highest bit.
use mathlib.Core.Path.{◌≡◌, refl, ap₂, ◌∙◌}
use Prim.Native.Nat.{ℕ, zero, suc, ◌%◌, ◌^◌, ◌<◌}
use native.Mathlib.Nat.{mod-lt, mod-eq_of_lt, add_comm}
use native.Mathlib.Omega.{arith}
use lib.Count.{ones, ones_cat}
use lib.Bits.{bit_xor, xor_block, xor_lt}
use lib.Dec.{eqb}
use lib.Pow.{pow_pos}
use Rattle.sets.proofs.Members.{bit_pairs, low_bits}
use Rattle.machine.specs.Couples.{input, one_unless, differing}

-- of one input
bit_ones : (x y : ℕ) → x < 2 → y < 2 → ones (bit_xor x y) ≡ one_unless (eqb x y)
unfolding ones
bit_ones = bit_pairs (λ (x y : ℕ). ones (bit_xor x y) ≡ one_unless (eqb x y)) refl refl refl refl

-- of the first n inputs
low_inputs : (n v w : ℕ) → differing n v w ≡ ones (bit_xor (v % 2 ^ n) (w % 2 ^ n))
unfolding differing ones
low_inputs zero v w =
    let e : (x : ℕ) → x % 1 ≡ 0 = λ x. omega arith in
    rw (e v, e w)
low_inputs (suc n) v w =
    let a = mod-lt v (pow_pos n) in
    let b = mod-lt w (pow_pos n) in
    let last = bit_ones (input v n) (input w n) (omega arith) (omega arith) in
    rw (low_bits v n, low_bits w n, xor_block n _ _ _ _ a b, ones_cat n _ _ (xor_lt n _ _ a b), last, low_inputs n v w) (add_comm _ _)

pub differing_ones : (n v w : ℕ) → v < 2 ^ n → w < 2 ^ n → differing n v w ≡ ones (bit_xor v w)
differing_ones n v w h k = low_inputs n v w ∙ ap₂ (λ (x y : ℕ). ones (bit_xor x y)) (mod-eq_of_lt h) (mod-eq_of_lt k)
