-- What a table that passed its checks has: sizes within their ranges, and without refusals 4 and 10 it makes a sound machine. Back, a
-- sound machine with a long table passes.
use mathlib.Core.Path.{◌≡◌, refl, subst}
use mathlib.Core.Bool.{Bool}
use mathlib.Core.List.{List}
use Prim.Native.Nat.{ℕ, ◌+◌, ◌*◌, ◌%◌, ◌^◌, ◌≤◌, ◌<◌}
use native.Mathlib.Omega.{arith}
use lib.ListN.{length, get_or}
use lib.Arith.{digits_lt}
use Rattle.verdict.specs.Checks.{Decides, Passed, Judged}
use Rattle.verdict.specs.declared.Answer.{Answer}
use Rattle.verdict.proofs.Order.{Passes, judged_passes, long, roomy}
use Rattle.verdict.proofs.Tests.{decides_map, meets}
use Rattle.machine.specs.Limits.{most_inputs, Sized}
use Rattle.machine.specs.Runs.{Machine, machine_by, machine_of, size, move}
use Rattle.machine.specs.declared.Frame.{Frame}
use Rattle.machine.proofs.Couples.{settings_bound}
use Rattle.machine.proofs.Sizes.{settings_are, sizes, couples_few}
use Rattle.machine.proofs.Soundness.{sound_machine}
use Rattle.tables.specs.Tables.{Tabled, size_checks, move_checks, moves_at, table_checks, Checked}
use Rattle.tables.specs.inner.Fits.{Small, Fit}
use Rattle.tables.proofs.Transients.{all_states}

-- the sizes of a table within their ranges, at z settings
module _ {n s i z : ℕ} (sized : Sized n s i) (settings : n ≤ most_inputs → z ≡ 2 ^ n) where
  pub small : Small s z
  small = record { few_states = sized.few_states; few_settings = rw (settings_are sized settings) (settings_bound sized.few_inputs) }

  -- what is told at z settings is told of the machine
  pub moves_told : (T : List ℕ) {a : Answer} → Judged (moves_at T s z) Passed a → Judged (moves_at T s (2 ^ n)) Passed a
  moves_told T {a} v = subst (λ (k : ℕ). Judged (moves_at T s k) Passed a) (settings_are sized settings) v

  pub fits : (T : List ℕ) {a : Answer} → s * z ≤ length T → Judged (moves_at T s z) Passed a → a.number ≡ 0 → Fit T s z i
  fits T h v e = record { small = small; begins = sized.begins; long = h; inside = all_states T s z (judged_passes 10 v refl e).0 }

-- the checks passed, in two parts
module _ (m : Machine) where
  pub size_passed : Passes (size_checks m) → Tabled m
  size_passed p = record { sized = sizes p.0; long = roomy p.1.0 }

  pub move_passed : Tabled m → Passes (move_checks m) → Checked m
  move_passed t p = record { tabled = t; sound = sound_machine m t.sized.begins p.0 p.1.0 }

  pub size_told : {a : Answer} → Judged (size_checks m) Passed a → a.number ≡ 0 → Tabled m
  size_told v e = size_passed (judged_passes 3 v refl e)

  pub checked : Passes (table_checks m) → Checked m
  checked p = move_passed (size_passed (p.0, (p.1.0, tt))) p.1.1

  -- a table of states, with an initial one
  pub fit : Checked m → Fit m.table m.states (size m) m.initial
  fit c = record { small = small c.tabled.sized (λ _. refl); begins = c.tabled.sized.begins; long = c.tabled.long; inside = c.sound.closed }

-- and back; and the table reaches at z settings
module _ {m : Machine} where
  pub reaches : Tabled m → {z : ℕ} → (m.inputs ≤ most_inputs → z ≡ size m) → m.states * z ≤ length m.table
  reaches t settings = rw (settings_are t.sized settings) t.long

  pub size_passes : Tabled m → Passes (size_checks m)
  size_passes t = (meets t.sized, (long t.long, tt))

-- a test of 2 and 3 says the same of both machines of a frame: they differ in their changes alone
pub tabled_by : (several : Bool) (f : Frame) (T : List ℕ) {r : Bool} → Decides (Tabled (machine_of f T)) r → Decides (Tabled (machine_by several f T)) r
tabled_by several f T = decides_map (λ t. record { sized = t.sized; long = t.long }) (λ t. record { sized = t.sized; long = t.long })

-- a couple's number by a shift: it stands in the table, and the element there is its move
module _ {m : Machine} (t : Tabled m) {s v : ℕ} (h : s < m.states) (k : v < size m) where
  pub shifted : s * size m % 2 ^ 64 ≡ s * size m
  shifted = omega (arith, digits_lt h k, couples_few t.sized)

  pub couple_inside : s * size m % 2 ^ 64 + v < length m.table
  couple_inside = omega (arith, shifted, digits_lt h k, t.long)

  pub couple_move : get_or m.table (s * size m % 2 ^ 64 + v) 0 ≡ move m s v
  couple_move = rw shifted
