-- `reached` decides which states are reached: the scan of Closure, whose measure falls with each flag put up.
use Rattle.std.proofs.Common.{arith}
use Rattle.verdict.proofs.Tests.{true≢false}
use Rattle.machine.specs.Runs.{size}
use Rattle.machine.proofs.Couples.{some_setting}
use Rattle.tables.proofs.Gate.{fit}
use Rattle.tables.specs.Tables.{machine_in}
use Rattle.tables.proofs.Closure.{unseen_set, scan_more, scan_add, scan_end, scan_start, restarts}
use Rattle.tables.proofs.jobs.SoundJob.reached.Goals as goal
use Rattle.tables.proofs.jobs.SoundJob.reached.Goals.{else-seen-s-via-then-seen-s+else-not-seen-t, else-seen-s-via-else-seen-s}

pub loop-p-init : goal.loop-p-init
loop-p-init c = (omega arith, scan_start _ _ _ (omega arith))

pub loop-p-smaller-then-not-seen-t : goal.loop-p-smaller-then-not-seen-t
loop-p-smaller-then-not-seen-t c = restarts _ _ _ _ (unseen_set c.loop-p.seen c.from-t.result (grind arith) c.if-not-seen-t.true) (omega arith)

pub loop-p-preserved-then-not-seen-t : goal.loop-p-preserved-then-not-seen-t
loop-p-preserved-then-not-seen-t c =
    let s = c.args.self in
    let m = machine_in s.job in
    let f = fit m s.checked in
    (omega arith, rw c.from-t.ensures (scan_add _ _ _ _ (some_setting m.states (size m) c.loop-p.p (omega arith)) (omega (arith, f.inside c.loop-p.p (omega arith))) (cc) c.loop-p.invariant.1))

pub loop-p-preserved : goal.loop-p-preserved
loop-p-preserved c = (
  omega arith,
  scan_more _ _ _ _ (elim c.else-seen-s.branch [
    | else-seen-s-via-then-seen-s+else-not-seen-t w ↦ λ e. cc
    | else-seen-s-via-else-seen-s w ↦ λ e. absurd (true≢false (cc))
  ]) c.loop-p.invariant.1,
)

pub returns : goal.returns
returns c = scan_end _ _ _ (fit (machine_in c.args.self.job) c.args.self.checked) (omega arith) c.loop-p.invariant.1
