use Prim.Native.Nat.{◌+◌, ◌≤◌}
use lib.ListN.{length}
use Rattle.machine.specs.Plans.{runs_in}
use Rattle.show.specs.Sheet.{run_lines}
use Rattle.show.proofs.Steps.{Left}
use Rattle.show.proofs.text.Text.run_lines.Given as goal

abbrev pub invariant-loop-settings : goal.invariant-loop-settings
invariant-loop-settings l = (l.number + length l.rest ≤ length l.plan + 1) × Left (run_lines 1 (runs_in l.plan)) (run_lines l.number (runs_in l.rest)) l.initial.self l.self

abbrev pub decreases-loop-settings : goal.decreases-loop-settings
decreases-loop-settings l = length l.rest
