use Rattle.std.proofs.Common.{ℕ, get_or}
use Rattle.machine.specs.Boards.{specified}
use Rattle.tables.specs.Tables.{machine_in}
use Rattle.readings.proofs.Writing.{Writing}
use Rattle.readings.proofs.fill.Given as goal

abbrev pub invariant-loop-i : goal.invariant-loop-i
invariant-loop-i l = Writing (specified (machine_in l.sound.job) (λ (s : ℕ). get_or l.words s 0)) l.sound.job.frame.states l.run l.fn.readings l.readings l.state l.i
