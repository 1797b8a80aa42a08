-- Of the machine of a frame: each change is of one input, and a setting with one input flipped may be changed to unless it is ruled out.
use mathlib.Core.Path.{◌≡◌, refl}
use mathlib.Core.List.{List}
use mathlib.Core.Bool.{Bool, true, false, and-true, and-eq-true_iff}
use Prim.Native.Nat.{ℕ, ◌^◌, ◌<◌}
use lib.Dec.{eqb}
use borrow.Author.Tests.{eqb-true}
use Rattle.machine.specs.inner.Flips.{flipped}
use Rattle.machine.specs.Runs.{Machine, usable, may_alter, machine_by, machine_of}
use Rattle.machine.specs.Couples.{differing}
use Rattle.machine.specs.declared.Frame.{Frame}
use Rattle.machine.proofs.Inputs.{flip_differs}

-- each change that a run may make is of exactly one input
pub record Single (m : Machine) : Type 0 where
  pub one : (v w : ℕ) → m.may_change v w ≡ true → differing m.inputs v w ≡ 1

module _ (f : Frame) (T : List ℕ) where
  pub machine_single : Single (machine_of f T)
  machine_single = record { one = λ v w e. eqb-true _ _ ((and-eq-true_iff (usable f w) (eqb (differing f.inputs v w) 1)).0 e).1 }

  -- of the machine of a frame a flip is a change that is not ruled out
  pub machine_flips : (several : Bool) (v i : ℕ) → i < f.inputs → (machine_by several f T).may_change v (flipped v (2 ^ i)) ≡ usable f (flipped v (2 ^ i))
  machine_flips several v i l = rw (flip_differs f.inputs v i l, may_one several) (and-true _)
    where
      may_one : (several : Bool) → may_alter several 1 ≡ true
      may_one true = refl
      may_one false = refl
