-- Each return is one way of ending: a run of r changes has r + 1 settings.
use mathlib.Core.Path.{sym}
use Rattle.std.proofs.lemmas.List.{length-take-le}
use Rattle.plan.specs.inner.Writing.{RunEnds}
use Rattle.plan.proofs.Fronts.{ends_short, ends_front, front_of}
use Rattle.plan.proofs.Chains.{length_settings}
use Rattle.plan.proofs.marked.Marked.run_to.Goals as goal

pub returns-then-self-couple : goal.returns-then-self-couple
returns-then-self-couple c = RunEnds.outside c.if-self-couple.true

pub returns-then-weight : goal.returns-then-weight
returns-then-weight c = rw c.unvisited.ensures (RunEnds.unvisited c.if-self-couple.false c.if-weight.true)

pub returns-then-run-needed : goal.returns-then-run-needed
returns-then-run-needed c = RunEnds.visited c.if-self-couple.false c.if-weight.false (ends_short (sym (length_settings _ _ _ _)) c.if-run-needed.true)

pub returns : goal.returns
returns c =
    let e = length_settings _ _ _ _ in
    RunEnds.visited c.if-self-couple.false c.if-weight.false (ends_front (sym e) c.if-run-needed.false (front_of (rw (length-take-le _ _ c.if-run-needed.false) at c.write_run.ensures) e))
