-- Tests of starts, changes and steps: each from the tests of its parts.
use mathlib.Core.Path.{◌≡◌, sym, ap, ◌∙◌}
use mathlib.Core.Logic.{◌⊎◌}
use mathlib.Core.Bool.{Bool, true, ◌&&◌, cond}
use Prim.Native.Nat.{ℕ, ◌/◌, ◌%◌}
use native.Mathlib.Nat.{div-add-mod', mod-lt}
use lib.Dec.{eqb, ltb}
use lib.Pow.{pow_pos, high, low}
use Rattle.verdict.specs.Checks.{Decides}
use Rattle.verdict.proofs.Tests.{decides_map, decides_equal, decides_below, decides_true, ◌also◌, decides_either}
use Rattle.machine.specs.Runs.{Machine, size, couple, move, Starts, Changes}
use Rattle.machine.specs.inner.Trails.{Steps}
use Rattle.machine.proofs.Trails.{stepped}

module _ (m : Machine) where
  unfoldable pub starts : ℕ → Bool
  starts v = ltb v (size m) && (eqb (move m m.initial v) m.initial && m.may_start v)

  pub decides_starts : (v : ℕ) → Decides (Starts m v) (starts v)
  unfolding starts
  decides_starts v = decides_map
      (λ x. record { below = x.0; rests = x.1.0; allowed = x.1.1 }) (λ x. (x.below, (x.rests, x.allowed)))
      (decides_below v (size m) also (decides_equal (move m m.initial v) m.initial also decides_true (m.may_start v)))

  unfoldable pub changes : ℕ → ℕ → Bool
  changes v w = ltb w (size m) && m.may_change v w

  pub decides_changes : (v w : ℕ) → Decides (Changes m v w) (changes v w)
  unfolding changes
  decides_changes v w = decides_map (λ x. record { below = x.0; allowed = x.1 }) (λ x. (x.below, x.allowed)) (decides_below w (size m) also decides_true (m.may_change v w))

  pub whole : (p : ℕ) → p ≡ couple m (p / size m) (p % size m)
  whole p = sym (div-add-mod' p (size m))

  -- from p, in state s at v, by a change to w, to c
  steps_by : ℕ → ℕ → ℕ → ℕ → Bool
  steps_by s v w c = eqb (move m s v) s && (changes v w && cond (eqb c (couple m s w)) true (eqb c (couple m (move m s w) w)))

  unfoldable pub steps : ℕ → ℕ → Bool
  unfolding steps_by
  steps p c = steps_by (p / size m) (p % size m) (c % size m) c

  pub decides_steps : (p c : ℕ) → Decides (Steps m p c) (steps p c)
  unfolding steps
  decides_steps p c = decides_map to_steps of_steps
      (decides_equal (move m s v) s also (decides_changes v w also decides_either (decides_equal c (couple m s w)) (decides_equal c (couple m (move m s w) w))))
    where
      s : ℕ
      s = p / size m

      v : ℕ
      v = p % size m

      w : ℕ
      w = c % size m

      Parts : Type 0
      Parts = (move m s v ≡ s) × (Changes m v w × ((c ≡ couple m s w) ⊎ (c ≡ couple m (move m s w) w)))

      to_steps : Parts → Steps m p c
      to_steps x = record { state = s; from = v; to = w; below = mod-lt p (pow_pos m.inputs); here = whole p; rests = x.0; change = x.1.0; visits = x.1.1 }

      of_steps : Steps m p c → Parts
      of_steps x =
          let e : x.state ≡ s = sym (ap (λ (y : ℕ). y / size m) x.here ∙ high x.state m.inputs x.below) in
          let f : x.from ≡ v = sym (ap (λ (y : ℕ). y % size m) x.here ∙ low x.state m.inputs x.below) in
          let g : x.to ≡ w = sym (stepped x) in
          rw (← e, ← f, ← g) (x.rests, (x.change, x.visits))
