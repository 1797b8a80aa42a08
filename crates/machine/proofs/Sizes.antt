-- Laws of sizes within their ranges: how many settings and couples there are, and that sizes which are not refused are within them.
use mathlib.Core.Path.{◌≡◌, refl, ap}
use Prim.Native.Nat.{ℕ, ◌*◌, ◌^◌, ◌≤◌}
use Rattle.verdict.specs.Checks.{Nowhere, Unless}
use Rattle.machine.specs.Limits.{most_inputs, most_couples, Sized}
use Rattle.machine.proofs.Order.{stable}
use Rattle.machine.proofs.Couples.{settings_bound, couples_bound}

-- at z settings, as the function `settings` tells them
module _ {n s i z : ℕ} (sized : Sized n s i) (settings : n ≤ most_inputs → z ≡ 2 ^ n) where
  pub settings_are : z ≡ 2 ^ n
  settings_are = settings sized.few_inputs

  pub couples_are : s * z ≡ s * 2 ^ n
  couples_are = ap (λ (x : ℕ). s * x) settings_are

pub couples_few : {n s i : ℕ} → Sized n s i → s * 2 ^ n ≤ most_couples
couples_few {n} {s} z = couples_bound s (2 ^ n) z.few_states (settings_bound z.few_inputs)

pub sizes : {n s i : ℕ} → Nowhere (Unless (Sized n s i)) → Sized n s i
sizes n = record {
  some_input = stable (λ f. n.nowhere 0 (refl, λ s. f s.some_input));
  few_inputs = stable (λ f. n.nowhere 0 (refl, λ s. f s.few_inputs));
  few_states = stable (λ f. n.nowhere 0 (refl, λ s. f s.few_states));
  begins = stable (λ f. n.nowhere 0 (refl, λ s. f s.begins));
}
