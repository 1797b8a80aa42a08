-- In the list the count of multiple changes, then the stored run into the rest; in the plan the stored run alone.
use native.Mathlib.Omega.{arith}
use Rattle.plan.proofs.Fronts.{length_rest, put_more}
use Rattle.plan.proofs.Chains.{length_by, list_stores, plan_stores}
use Rattle.plan.proofs.marked.Marked.store.Goals as goal

pub write_count-requires : goal.write_count-requires
write_count-requires c = let fits = rw (length_by, c.if-self.true) at c.requires.fits in omega (arith, fits)

pub store_run-requires-clause-fits : goal.store_run-requires-clause-fits
store_run-requires-clause-fits c =
    let fits = rw (length_by, c.if-self.true) at c.requires.fits in
    (c.args.self.now.room.short c.args.couple c.requires.couple.0 c.requires.couple.1, rw length_rest (omega (arith, fits)))

pub returns-then-self : goal.returns-then-self
returns-then-self c = rw (c.if-self.true, list_stores) (put_more c.write_count.ensures c.store_run.ensures)

pub store_run-requires-2-clause-fits : goal.store_run-requires-2-clause-fits
store_run-requires-2-clause-fits c =
    let fits = rw (length_by, c.if-self.false) at c.requires.fits in
    (c.args.self.now.room.short c.args.couple c.requires.couple.0 c.requires.couple.1, omega (arith, fits))

pub returns : goal.returns
returns c = rw (c.if-self.false, plan_stores) c.store_run-2.ensures
