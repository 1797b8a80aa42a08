-- Couple numbers s * m + v with v < m, over the number m of settings: each is that of one couple, by quotient and remainder.
use mathlib.Core.Path.{◌≡◌, sym, ap, subst, ◌∙◌}
use Prim.Native.Nat.{ℕ, zero, suc, ◌+◌, ◌*◌, ◌/◌, ◌%◌, ◌^◌, ◌≤◌, ◌<◌}
use native.Mathlib.Nat.{suc-mul, mul-le-mul, mul-zero, not-suc-le-zero, mod-lt, div-add-mod', div-lt_iff_lt-mul}
use native.Mathlib.Numerals.{add-one}
use native.Mathlib.Omega.{arith}
use lib.Arith.{digits_div, digits_mod, digits_lt}
use lib.Pow.{pow_mono}
use Rattle.machine.specs.Limits.{most_inputs, most_states, most_settings, most_couples}
use Rattle.machine.specs.Couples.{couple_at, Couple}
use Rattle.machine.specs.Runs.{Machine, size, couple, move, Sound}

module _ (m : ℕ) where
  -- the couples of s are followed by those of s + 1
  pub next_state : (s : ℕ) → (s + 1) * m ≡ s * m + m
  next_state s = rw (add-one, suc-mul)

  -- a number is that of one couple only
  pub same_couple : (s s' : ℕ) {v v' : ℕ} → v < m → v' < m → couple_at m s v ≡ couple_at m s' v' → (s ≡ s') × (v ≡ v')
  same_couple s s' h h' e =
      (sym (digits_div s h) ∙ ap (◌/ m) e ∙ digits_div s' h', sym (digits_mod s h) ∙ ap (◌% m) e ∙ digits_mod s' h')

-- the largest sizes
pub settings_bound : {n : ℕ} → n ≤ most_inputs → 2 ^ n ≤ most_settings
settings_bound l = pow_mono l

pub couples_bound : (s m : ℕ) → s ≤ most_states → m ≤ most_settings → s * m ≤ most_couples
couples_bound s m h k = mul-le-mul h k

pub couple_below : {states m s v p : ℕ} → Couple states m s v p → p < states * m
couple_below {states} {m} {s} {v} {p} c = subst (λ p. p < states * m) (sym c.number) (digits_lt c.state c.setting)

-- a number is that of its quotient and remainder
pub couple_of : {states m : ℕ} (p : ℕ) → 0 < m → p < states * m → Couple states m (p / m) (p % m) p
couple_of {states} {m} p z h =
    record { state = (div-lt_iff_lt-mul z).1 h; setting = mod-lt p z; number = sym (div-add-mod' p m) }

-- where there is a couple there is a setting
pub some_setting : (states settings p : ℕ) → p < states * settings → 0 < settings
some_setting states zero p h = absurd (not-suc-le-zero (rw mul-zero at h))
some_setting states (suc m) p h = omega arith

-- the couples of a machine
module _ (m : Machine) where
  pub couple_same : (s t : ℕ) {v w : ℕ} → v < size m → w < size m → couple m s v ≡ couple m t w → (s ≡ t) × (v ≡ w)
  couple_same s t h k e = same_couple (size m) s t h k e

  pub couple_setting : (s : ℕ) {v : ℕ} → v < size m → couple m s v % size m ≡ v
  couple_setting s h = digits_mod s h

pub moves : {m : Machine} → Sound m → (s v : ℕ) → s < m.states → v < size m → move m s v < m.states
moves ok s v h l = ok.closed _ (digits_lt h l)
