-- The promise of `set_of` leaves one set: a set of given members is one.
use mathlib.Core.Path.{◌≡◌}
use mathlib.Core.Logic.{⊎_elim}
use mathlib.Core.List.{List}
use Prim.Native.Nat.{ℕ, ◌^◌, ◌≤◌, ◌<◌}
use Rattle.sets.specs.Sets.{words, SetOf}
use Rattle.sets.proofs.Arrays.{set_of_only}
use Rattle.machine.specs.Limits.{most_inputs}
use Rattle.machine.proofs.Order.{below_or}

pub set_of_text_only : (inputs : ℕ) (P : ℕ → Type 0) (r s : List ℕ)
    → (inputs ≤ most_inputs → SetOf words (2 ^ inputs) P r) → (most_inputs < inputs → SetOf words 0 P r)
    → (inputs ≤ most_inputs → SetOf words (2 ^ inputs) P s) → (most_inputs < inputs → SetOf words 0 P s) → r ≡ s
set_of_text_only inputs P r s few many few' many' = ⊎_elim (λ h. set_of_only (many h) (many' h)) (λ h. set_of_only (few h) (few' h)) (below_or most_inputs inputs)
