-- What the program's own functions say of the bytes that they moved, and of a machine that can be planned.
use Rattle.std.specs.Prelude.{◌≡◌, ℕ, ◌≤◌, Result, IfOk, length}
use Rattle.machine.specs.Runs.{Machine, couples, Starts}
use Rattle.tables.specs.Tables.{Checked}
use Rattle.sheet.specs.Printed.{text_room}

-- no more bytes came than the buffer has
abbrev pub Within : {E : Type 0} → Result ℕ E → ℕ → Type 0
Within r most = IfOk r (λ n. n ≤ most)

-- no table job refuses the machine, its table has as many bytes as it has couples, and there is room for its text
pub record Ready (m : Machine) (room : ℕ) : Type 0 where
  pub checked : Checked m
  pub started : (((v : ℕ) × Starts m v) → ⊥) → ⊥
  pub exact : length m.table ≡ couples m
  pub roomy : text_room ≤ room
