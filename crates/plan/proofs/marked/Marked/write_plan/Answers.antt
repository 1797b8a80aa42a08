-- The invariant: the pieces of the first c couples stand at the front; each next one is written into the rest.
use mathlib.Core.List.{append-nil}
use native.Mathlib.Omega.{arith}
use Rattle.plan.proofs.Fronts.{length_rest, put_more}
use Rattle.plan.proofs.Chains.{pieces_fit, pieces_more, piece_chosen, piece_left}
use Rattle.plan.proofs.marked.Marked.write_plan.Goals.{then-chosen-c, else-chosen-c}
use Rattle.plan.proofs.marked.Marked.write_plan.Goals as goal

pub store-at-requires-clause-fits : goal.store-at-requires-clause-fits
store-at-requires-clause-fits c =
    let m = c.args.self.now in
    let l = c.loop-c in
    rw (length_rest, ← piece_chosen m.several m.parents.now m.weights.now m.size c.args.chosen.now l.c c.if-chosen-c.true) (omega (arith, pieces_fit m.several m.parents.now m.weights.now m.size c.args.chosen.now m.couples l.c c.loop-c-test.true, l.invariant.count, c.requires.fits))

pub loop-c-preserved : goal.loop-c-preserved
loop-c-preserved c =
    elim c.if-chosen-c.branch [
      | then-chosen-c w ↦ rw (pieces_more, piece_chosen _ _ _ _ _ _ w.if-chosen-c.true, w.at-is, w.out-is) (put_more c.loop-c.invariant w.store-at.ensures)
      | else-chosen-c w ↦ rw (pieces_more, piece_left _ _ _ _ _ _ w.if-chosen-c.false, append-nil, w.at-is, w.out-is) c.loop-c.invariant
    ]
