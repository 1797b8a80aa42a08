-- `first_fault` finds the first fault of a list of settings: none has been seen below i, so that the setting before i is below 2 ^ n.
use Rattle.std.proofs.Common.{arith, ◌≡◌, ◌∙◌, sym, ◌+◌, ◌-◌}
use borrow.Author.Tests.{eqb-true, eqb-false}
use Rattle.verdict.proofs.Tests.{unseen_start, unseen_more, unseen_here, unseen_end}
use Rattle.machine.specs.Runs.Fault.{empty}
use Rattle.runs.proofs.Indices.{start_fails, start_passes, change_fails, change_passes, faultless_below, fault_inside}
use Rattle.runs.proofs.faults.first_fault.Goals as goal
use Rattle.runs.proofs.faults.first_fault.Goals.{then-is_empty-via-then-is_empty, then-is_empty-via-else-is_empty+then-not-is_start}

pub returns-then-is_empty : goal.returns-then-is_empty
returns-then-is_empty c = unseen_here unseen_start (elim c.then-is_empty.branch [
  | then-is_empty-via-then-is_empty w ↦ empty (eqb-true _ 0 (sym c.is_empty.ensures ∙ w.if-is_empty.true))
  | then-is_empty-via-else-is_empty+then-not-is_start w ↦ start_fails c.setting-from.ensures.0 w.is_start.ensures w.if-not-is_start.true
])

pub loop-i-init : goal.loop-i-init
loop-i-init c = let some = eqb-false _ 0 (sym c.is_empty.ensures ∙ c.if-is_empty.false) in (c.setting-from.ensures.0, unseen_more unseen_start (start_passes (omega (arith, some)) c.setting-from.ensures.0 c.is_start.ensures c.if-not-is_start.false))

pub may_change-requires : goal.may_change-requires
may_change-requires c = let i = c.loop-i.i in rw c.loop-i.invariant.0 (faultless_below (i - 1) (omega arith) (c.loop-i.invariant.1.none (i - 1) (omega arith)))

pub returns-then-not-may_change : goal.returns-then-not-may_change
returns-then-not-may_change c = unseen_here c.loop-i.invariant.1 (change_fails c.loop-i.i (omega arith) (omega arith) c.loop-i.invariant.0 c.setting-to.ensures.0 c.may_change.ensures c.if-not-may_change.true)

pub loop-i-preserved : goal.loop-i-preserved
loop-i-preserved c = let last : c.loop-i.i + 1 - 1 ≡ c.loop-i.i = omega arith in (rw last c.setting-to.ensures.0, unseen_more c.loop-i.invariant.1 (change_passes c.loop-i.i (omega arith) c.loop-i.invariant.0 c.setting-to.ensures.0 c.may_change.ensures c.if-not-may_change.false))

pub returns : goal.returns
returns c = unseen_end c.loop-i.invariant.1 (fault_inside (omega arith) (omega arith))
