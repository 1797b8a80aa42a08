-- `first_transient` finds the least couple whose move does not rest: each below p moves to rest.
use Rattle.std.proofs.Common.{arith, below_more}
use Rattle.machine.proofs.Couples.{couple_below, some_setting}
use Rattle.machine.specs.Runs.{size}
use Rattle.tables.specs.Tables.{machine_in}
use Rattle.tables.proofs.Transients.{transient_at, transient_not, all_states}
use Rattle.tables.proofs.jobs.SizedJob.first_transient.Goals as goal

pub moved-requires-clause-state : goal.moved-requires-clause-state
moved-requires-clause-state c = omega (arith, all_states _ _ _ c.requires c.loop-p.p (omega arith))

pub returns-then-moved-t : goal.returns-then-moved-t
returns-then-moved-t c =
    let j = c.args.self.job in
    record {
      here = transient_at j.table.now (some_setting j.frame.states (size (machine_in j)) c.loop-p.p (omega arith)) (omega arith) (λ e. c.if-moved-t.true (cc));
      first = c.loop-p.invariant;
    }

pub loop-p-preserved : goal.loop-p-preserved
loop-p-preserved c = below_more _ _ c.loop-p.invariant (transient_not c.args.self.job.table.now (cc))

pub returns : goal.returns
returns c = record { nowhere = λ k x. c.loop-p.invariant k (omega (arith, couple_below x.couple)) x }
