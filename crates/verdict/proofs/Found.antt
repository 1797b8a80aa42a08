-- What `find`, `all` and `any` answer over a range of numbers, told of the numbers in it: where the closure says so they are a Yes, and
-- elsewhere a No.
use Rattle.std.specs.Prelude.{Option, Some, None}
use Rattle.std.specs.Bool.{MatchBool}
use Rattle.std.specs.List.{range_with_len, AllWithin, HoldsAt}
use Rattle.std.specs.Option.{MatchOption}
use Rattle.std.proofs.lemmas.List.FromFn.{length-range_with_len, get_or-range_with_len}
use mathlib.Core.Bool.{Bool, true, false}
use mathlib.Core.Path.{◌≡◌, subst, ◌∙◌}
use Prim.Native.Nat.{ℕ, ◌+◌, ◌-◌, ◌≤◌, ◌<◌}
use native.Mathlib.Omega.{arith}
use lib.ListN.{length}
use Rattle.verdict.specs.Checks.{Decides, Finds}
use Rattle.verdict.proofs.Tests.{it_holds, it_fails}

-- a search from 0 finds the least
pub found : {F Yes No : ℕ → Type 0} {n : ℕ} (r : Option ℕ) → MatchOption r ((k : ℕ) → 0 ≤ k → k < n → No k) (λ i. (0 ≤ i) × (i < n) × Yes i × ((k : ℕ) → 0 ≤ k → k < i → No k)) → ((k : ℕ) → k < n → Yes k → F k) → ((k : ℕ) → No k → F k → ⊥)
    → ((k : ℕ) → F k → k < n) → Finds F r
found (Some i) m is not below = record { here = is i m.1 m.2; first = λ k h. not k (m.3 k (omega arith) h) }
found None m is not below = record { nowhere = λ k f. not k (m k (omega arith) (below k f)) f }

module _ (P : ℕ → Type 0) (a n : ℕ) where
  each_in : AllWithin P (range_with_len a (n - a)) 0 (length (range_with_len a (n - a))) → (k : ℕ) → a ≤ k → k < n → P k
  each_in all k l h =
      let e : a + (k - a) ≡ k = omega arith in
      subst P (get_or-range_with_len a (n - a) (k - a) 0 (omega arith) ∙ e) (all (k - a) 0 (omega arith) (omega (arith, length-range_with_len a (n - a))))

  some_in : (k : ℕ) × (k < length (range_with_len a (n - a))) × HoldsAt P (range_with_len a (n - a)) k → (k : ℕ) × (a ≤ k) × (k < n) × P k
  some_in w =
      let l : w.0 < n - a = omega (arith, w.1, length-range_with_len a (n - a)) in
      (a + w.0, omega arith, omega arith, subst P (get_or-range_with_len a (n - a) w.0 0 l) (w.2 0))

-- a test of all
pub all_in : {Yes No : ℕ → Type 0} {a n : ℕ} {P : Type 0} (r : Bool) → MatchBool r (AllWithin Yes (range_with_len a (n - a)) 0 (length (range_with_len a (n - a)))) ((k : ℕ) × (k < length (range_with_len a (n - a))) × HoldsAt No (range_with_len a (n - a)) k)
    → (((k : ℕ) → a ≤ k → k < n → Yes k) → P) → ((k : ℕ) → a ≤ k → k < n → No k → P → ⊥) → Decides P r
all_in {Yes} {No} {a} {n} true m is not = it_holds (is (each_in Yes a n m))
all_in {Yes} {No} {a} {n} false m is not = it_fails λ p. let w = some_in No a n m in not w.0 w.1 w.2 w.3 p

-- and of any
pub any_in : {Yes No : ℕ → Type 0} {a n : ℕ} {P : Type 0} (r : Bool) → MatchBool r ((k : ℕ) × (k < length (range_with_len a (n - a))) × HoldsAt Yes (range_with_len a (n - a)) k) (AllWithin No (range_with_len a (n - a)) 0 (length (range_with_len a (n - a))))
    → ((k : ℕ) → a ≤ k → k < n → Yes k → P) → (((k : ℕ) → a ≤ k → k < n → No k) → P → ⊥) → Decides P r
any_in {Yes} {No} {a} {n} true m is not = it_holds (let w = some_in Yes a n m in is w.0 w.1 w.2 w.3)
any_in {Yes} {No} {a} {n} false m is not = it_fails (not (each_in No a n m))
