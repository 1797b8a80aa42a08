use Rattle.std.proofs.Common.{◌≡◌, ◌-◌, get_or}
use Rattle.verdict.proofs.Tests.{Unseen}
use Rattle.machine.specs.Runs.{Fault}
use Rattle.tables.specs.Tables.{machine_in}
use Rattle.runs.proofs.faults.first_fault.Given as goal

abbrev pub invariant-loop-i : goal.invariant-loop-i
invariant-loop-i l = (l.from ≡ get_or l.run (l.i - 1) 0) × Unseen (Fault (machine_in l.sized.job) l.run) l.i
