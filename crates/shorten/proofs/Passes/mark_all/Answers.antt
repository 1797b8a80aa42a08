-- `mark_all` goes from run to run: marking the runs ahead ends as marking all of them does.
use Rattle.std.proofs.Common.{arith}
use Rattle.runs.proofs.Front.{first_run}
use Rattle.shorten.proofs.Walking.{walk_run}
use Rattle.shorten.proofs.Marking.{all_start, all_more, all_end}
use Rattle.shorten.proofs.Passes.mark_all.Goals as goal

pub loop-at-init : goal.loop-at-init
loop-at-init c = all_start c.requires.runs c.requires.fresh

pub mark-requires : goal.mark-requires
mark-requires c =
    let k = c.loop-at in
    walk_run _ k.self.sound.checked.sound.begins (first_run k.invariant.ahead c.loop-at-test.true c.run_end-end.ensures).run

pub loop-at-preserved : goal.loop-at-preserved
loop-at-preserved c = all_more c.loop-at.invariant (first_run c.loop-at.invariant.ahead c.loop-at-test.true c.run_end-end.ensures) c.mark.ensures

pub returns-clause-tells : goal.returns-clause-tells
returns-clause-tells c = all_end c.loop-at.invariant (omega arith) c.requires.fresh
