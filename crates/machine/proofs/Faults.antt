-- A list of settings is a run where, and only where, it has no fault: by induction on the list.
use mathlib.Core.Path.{refl}
use mathlib.Core.Logic.{◌↔◌, ⊎_elim}
use mathlib.Core.List.{List, [], ◌∷◌}
use Prim.Native.Nat.{ℕ, zero, suc, ◌<◌}
use native.Mathlib.Omega.{arith}
use lib.ListN.{length, get_or}
use Rattle.machine.specs.Runs.{Machine, Changes, Goes, Run, Fault}
use Rattle.machine.specs.Runs.Fault.{empty, no_start, no_change}
use Rattle.verdict.proofs.Tests.{decides_or}
use Rattle.machine.proofs.Tests.{decides_starts, decides_changes}

module _ (m : Machine) where
  goes_at : (v : ℕ) (ws : List ℕ) → Goes m v ws → (i : ℕ) → suc i < length (v ∷ ws) → Changes m (get_or (v ∷ ws) i 0) (get_or (v ∷ ws) (suc i) 0)
  goes_at v [] g i l = absurd (omega arith)
  goes_at v (w ∷ ws) g zero l = g.0
  goes_at v (w ∷ ws) g (suc i) l = goes_at w ws g.1 i (omega arith)

  at_goes : (v : ℕ) (ws : List ℕ) → ((i : ℕ) → suc i < length (v ∷ ws) → (Changes m (get_or (v ∷ ws) i 0) (get_or (v ∷ ws) (suc i) 0) → ⊥) → ⊥) → Goes m v ws
  at_goes v [] n = tt
  at_goes v (w ∷ ws) n =
      (⊎_elim (λ c. c) (λ c. absurd (n 0 (omega arith) c)) (decides_or (decides_changes m v w)), at_goes w ws (λ i l f. n (suc i) (omega arith) f))

  sound_run : (vs : List ℕ) (i : ℕ) → Run m vs → Fault m vs i → ⊥
  sound_run [] i r f = r
  sound_run (v ∷ vs) i r (empty e) = absurd (omega arith)
  sound_run (v ∷ vs) i r (no_start l n) = n r.0
  sound_run (v ∷ vs) i r (no_change {i = j} l n) = n (goes_at v vs r.1 j l)

  faultless : (vs : List ℕ) → ((i : ℕ) → Fault m vs i → ⊥) → Run m vs
  faultless [] n = n 0 (empty refl)
  faultless (v ∷ vs) n =
      (⊎_elim (λ s. s) (λ s. absurd (n 0 (no_start (omega arith) s))) (decides_or (decides_starts m v)), at_goes v vs (λ i l f. n (suc i) (no_change l f)))

  pub run_faultless : (vs : List ℕ) → Run m vs ↔ ((i : ℕ) → Fault m vs i → ⊥)
  run_faultless vs = (λ r i f. sound_run vs i r f, faultless vs)
