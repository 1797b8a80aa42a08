-- `keep` goes from run to run, a turn for each: the runs that stay stand at the front.
use Rattle.std.proofs.Common.{arith}
use Rattle.runs.proofs.Front.{first_run}
use Rattle.shorten.proofs.Keeping.{keeping_start, keeping_ahead, keeping_turn, keeping_end}
use Rattle.shorten.proofs.Passes.keep.Goals as goal

pub loop-at-init : goal.loop-at-init
loop-at-init c = keeping_start c.requires.runs c.requires.tells c.requires.few

pub keep_one-to-requires-clause-run : goal.keep_one-to-requires-clause-run
keep_one-to-requires-clause-run c = (first_run (keeping_ahead c.loop-at.invariant) c.loop-at-test.true c.run_end-end.ensures).run

pub overflow_add-to : goal.overflow_add-to
overflow_add-to c =
    let k = c.loop-at.invariant in
    let n = keeping_turn k (first_run (keeping_ahead k) c.loop-at-test.true c.run_end-end.ensures) c.keep_one-to.ensures in
    omega (arith, n.low, n.within)

pub loop-at-preserved : goal.loop-at-preserved
loop-at-preserved c =
    let k = c.loop-at.invariant in
    keeping_turn k (first_run (keeping_ahead k) c.loop-at-test.true c.run_end-end.ensures) c.keep_one-to.ensures

pub returns : goal.returns
returns c = keeping_end c.loop-at.invariant (omega arith) c.requires.runs
