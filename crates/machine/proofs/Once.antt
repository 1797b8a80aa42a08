-- Each promise of this crate leaves one answer: a test has one, and a number that is told is one.
use mathlib.Core.Path.{◌≡◌, sym, ◌∙◌}
use mathlib.Core.Bool.{Bool}
use mathlib.Core.Logic.{⊎_elim}
use Prim.Native.Nat.{ℕ, ◌^◌, ◌≤◌, ◌<◌}
use Rattle.verdict.specs.Checks.{Decides}
use Rattle.verdict.proofs.Tests.{decides_unique}
use Rattle.machine.specs.Limits.{most_inputs, Sized}
use Rattle.machine.proofs.Order.{below_or}

pub settings_only : (inputs r s : ℕ) → (inputs ≤ most_inputs → r ≡ 2 ^ inputs) → (most_inputs < inputs → r ≡ 0)
    → (inputs ≤ most_inputs → s ≡ 2 ^ inputs) → (most_inputs < inputs → s ≡ 0) → r ≡ s
settings_only inputs r s few many few' many' = ⊎_elim (λ h. many h ∙ sym (many' h)) (λ h. few h ∙ sym (few' h)) (below_or most_inputs inputs)

pub sized_only : (inputs states initial : ℕ) (r s : Bool) → Decides (Sized inputs states initial) r → Decides (Sized inputs states initial) s → r ≡ s
sized_only inputs states initial r s = decides_unique _ r s
