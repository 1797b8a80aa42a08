-- `expected_by` goes through its checks in their order, and on success writes the readings.
use Rattle.std.proofs.Common.{refl}
use Rattle.verdict.proofs.Fills.{written_done}
use Rattle.readings.proofs.Outcomes.{walkable, done}
use Rattle.readings.proofs.expected_by.Goals as goal

pub fill-requires : goal.fill-requires
fill-requires c =
    let sized = c.in_ok-check_shape.ensures in
    rw (c.in_ok-sound.ensures.job, sized.job) (walkable (rw sized.job at c.in_ok-check_shape.field-0.tabled) sized.verdict c.in_ok-check_run.ensures)

pub returns : goal.returns
returns c =
    let sized = c.in_ok-check_shape.ensures in
    let sound = c.in_ok-sound.ensures in
    record {
      verdict = done (rw sized.job at c.in_ok-check_shape.field-0.tabled) sized.verdict c.in_ok-check_run.ensures (rw sized.job at sound.verdict) c.needed.ensures;
      readings = written_done refl (rw (sound.job, sized.job) at c.fill.ensures) refl;
    }
