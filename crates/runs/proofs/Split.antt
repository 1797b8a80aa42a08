-- The runs that stored bytes hold, one after the other: the first ends where `storedEnd` says, and the others stand behind it.
use mathlib.Core.Path.{◌≡◌, refl, sym, ap, ap₂, ◌∙◌}
use mathlib.Core.List.{List, [], ◌∷◌}
use mathlib.Core.Logic.{⊎_elim}
use Prim.Native.Nat.{ℕ, suc, ◌+◌, ◌-◌, ◌≤◌, ◌<◌, min}
use native.Mathlib.Nat.{eq-or-lt_of_le}
use native.Mathlib.Omega.{arith}
use lib.ListN.{length, get_or, take, drop, length-drop, drop_of_length-le}
use lib.Seq.{drop-cons, drop-drop, take_all}
use Rattle.machine.specs.Plans.{runs_in}
use Rattle.machine.proofs.Stored.{runs_first}
use Rattle.runs.specs.Stored.{settings_at, stored_end}

-- no run stands in fewer than two bytes
pub runs_none : (bs : List ℕ) → length bs < 2 → runs_in bs ≡ []
runs_none [] h = refl
runs_none (b ∷ []) h = refl
runs_none (b ∷ d ∷ bs) h = absurd (omega arith)

-- a list cut at n, or at its end where it is shorter
cut : (n k : ℕ) (l : List ℕ) → k ≡ min n (length l) → (take n l ≡ take k l) × (drop n l ≡ drop k l)
cut n k l e =
    ⊎_elim
    (λ (s : k ≡ n). rw s (refl, refl))
    (λ (h : k < n).
    let far : length l ≤ n = omega arith in
    let near : length l ≤ k = omega arith in
    (take_all n l far ∙ sym (take_all k l near), drop_of_length-le l far ∙ sym (drop_of_length-le l near)))
    (eq-or-lt_of_le (omega arith))

-- the count at a byte, and what stands behind it
pub begins : (plan : List ℕ) (at : ℕ) → at + 2 ≤ length plan → drop at plan ≡ get_or plan at 0 ∷ get_or plan (at + 1) 0 ∷ drop (at + 2) plan
begins plan at h =
    let one : at + 1 ≡ suc at = omega arith in
    let two : at + 2 ≡ suc (suc at) = omega arith in
    rw (one, two, drop-cons plan at 0 (omega arith), drop-cons plan (suc at) 0 (omega arith))

-- the settings of the run at a byte, and what stands behind it: it ends where its count says, at the latest with the plan
pub run_parts : (plan : List ℕ) (at : ℕ) {end : ℕ} → end ≡ stored_end plan at → at + 2 ≤ length plan
    → (take (settings_at plan at) (drop (at + 2) plan) ≡ take (end - (at + 2)) (drop (at + 2) plan))
    × (drop (settings_at plan at) (drop (at + 2) plan) ≡ drop end plan)
run_parts plan at {end} e h =
    let parts = cut (settings_at plan at) (end - (at + 2)) (drop (at + 2) plan) (rw length-drop (omega arith)) in
    let all : at + 2 + (end - (at + 2)) ≡ end = omega arith in
    (parts.0, parts.1 ∙ drop-drop (end - (at + 2)) (at + 2) plan ∙ ap (λ (k : ℕ). drop k plan) all)

-- the run at a byte, and those behind it
pub next_run : (plan : List ℕ) (at : ℕ) {end : ℕ} → end ≡ stored_end plan at → at + 2 ≤ length plan
    → runs_in (drop at plan) ≡ take (end - (at + 2)) (drop (at + 2) plan) ∷ runs_in (drop end plan)
next_run plan at e h =
    let (run, rest) = run_parts plan at e h in
    ap runs_in (begins plan at h)
    ∙ runs_first (get_or plan at 0) (get_or plan (at + 1) 0) (drop (at + 2) plan)
    ∙ ap₂ (λ (run rest : List ℕ). run ∷ runs_in rest) run rest
