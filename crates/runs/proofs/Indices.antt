-- Refusal 17 at one index of a list of settings: the first is a fault unless it is a start, a later one unless it is a change from the
-- one before, and there is none beyond the end.
use mathlib.Core.Path.{◌≡◌}
use mathlib.Core.Bool.{Bool, true, false}
use mathlib.Core.Logic.{⊎_elim}
use mathlib.Core.List.{List}
use Prim.Native.Nat.{ℕ, zero, suc, ◌-◌, ◌≤◌, ◌<◌}
use native.Mathlib.Omega.{arith}
use lib.ListN.{length, get_or}
use Rattle.verdict.specs.Checks.{Decides}
use Rattle.machine.specs.Runs.{Machine, size, Starts, Changes, Fault}
use Rattle.machine.specs.Runs.Fault.{empty, no_start, no_change}
use Rattle.machine.proofs.Order.{stable, below_or}

suc_pred : (i : ℕ) → suc i - 1 ≡ i
suc_pred i = omega arith

-- the first setting, and one that has another before it, each with a test
module _ {m : Machine} {run : List ℕ} {b : Bool} where
  pub start_fails : {v : ℕ} → v ≡ get_or run 0 0 → Decides (Starts m v) b → b ≡ false → Fault m run 0
  start_fails e d f = ⊎_elim (λ l. no_start l (λ s. d.fails f (rw e s))) (λ l. empty (omega arith)) (below_or 0 (length run))

  pub start_passes : {v : ℕ} → 0 < length run → v ≡ get_or run 0 0 → Decides (Starts m v) b → b ≡ true → Fault m run 0 → ⊥
  start_passes l e d t (empty k) = omega arith
  start_passes l e d t (no_start _ n) = n (rw e at (d.holds t))

  pub change_fails : (i : ℕ) {v w : ℕ} → 1 ≤ i → i < length run → v ≡ get_or run (i - 1) 0 → w ≡ get_or run i 0 → Decides (Changes m v w) b → b ≡ false → Fault m run i
  change_fails zero h l e f d g = absurd (omega arith)
  change_fails (suc i) h l e f d g = no_change l (λ c. d.fails g (rw (e, f, suc_pred) c))

  pub change_passes : (i : ℕ) {v w : ℕ} → 1 ≤ i → v ≡ get_or run (i - 1) 0 → w ≡ get_or run i 0 → Decides (Changes m v w) b → b ≡ true → Fault m run i → ⊥
  change_passes zero h e f d t x = omega arith
  change_passes (suc i) h e f d t (no_change _ n) = n (rw (e, f, suc_pred) at (d.holds t))

-- where there is no fault, the setting is one of the machine's
pub faultless_below : {m : Machine} {run : List ℕ} (i : ℕ) → i < length run → (Fault m run i → ⊥) → get_or run i 0 < size m
faultless_below zero l n = stable (λ h. n (no_start l (λ s. h s.below)))
faultless_below (suc i) l n = stable (λ h. n (no_change l (λ c. h c.below)))

-- a fault behind the first setting stands within the list
pub fault_inside : {m : Machine} {run : List ℕ} {i : ℕ} → 1 ≤ i → length run ≤ i → (k : ℕ) → Fault m run k → k < i
fault_inside h l zero f = omega arith
fault_inside h l (suc k) (no_change j n) = omega arith
