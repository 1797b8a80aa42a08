-- Writing the readings of a run forwards: what is written so far, followed by the readings of the settings that are left, is the whole.
use mathlib.Core.Path.{◌≡◌, ap, ◌∙◌}
use mathlib.Core.List.{List, ◌++◌}
use Prim.Native.Nat.{ℕ, ◌*◌, ◌-◌, ◌≤◌, ◌<◌}
use native.Mathlib.Omega.{arith}
use native.Mathlib.Nat.{zero-add}
use lib.ListN.{length, drop}
use lib.Seq.{sets, sets-eq, drop-length}
use Rattle.verdict.specs.Buffers.{Front}
use Rattle.machine.specs.Boards.{Board, readings, readings_from}
use Rattle.machine.proofs.Readings.{length_readings}

-- before setting i, in state s
pub record Writing (b : Board) (states : ℕ) (run out₀ out : List ℕ) (s i : ℕ) : Type 0 where
  pub state : s < states
  pub as_long : length out ≡ length out₀
  pub same : sets out (2 * i - 1) (readings_from b s (drop i run)) ≡ sets out₀ 0 (readings b run)

-- all of them are written, and stand at the front
pub write_end : {b : Board} {states : ℕ} {run out₀ out : List ℕ} {s i : ℕ} → Writing b states run out₀ out s i → length run ≤ i → i ≤ length run → 2 * length run - 1 ≤ length out₀
    → Front (readings b run) out₀ out
write_end {b} {run = run} {out₀} {out} {s} {i} k h j room =
    let e : i ≡ length run = omega arith in
    let all : out ≡ sets out₀ 0 (readings b run) = rw (e, drop-length) at k.same in
    record { is = all ∙ rw (sets-eq (readings b run) out₀ 0 (omega (arith, length_readings b run))) (ap (λ (k : ℕ). readings b run ++ drop k out₀) (zero-add (length (readings b run)))) }
