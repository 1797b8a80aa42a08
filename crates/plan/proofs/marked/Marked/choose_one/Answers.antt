-- The couple's turn, wanted or not; the list counts the multiple changes beside the settings.
use mathlib.Core.Path.{ap}
use mathlib.Core.Bool.{Bool, false, cond}
use Prim.Native.Nat.{ℕ}
use native.Mathlib.Omega.{arith}
use lib.Seq.{get_or-set_same}
use Rattle.plan.proofs.Turns.{turn_not, turn_taken}
use Rattle.plan.proofs.marked.Marked.choose_one.Goals.{then-self, else-self}
use Rattle.plan.proofs.marked.Marked.choose_one.Goals as goal

pub returns-then-not-chosen-c : goal.returns-then-not-chosen-c
returns-then-not-chosen-c c = turn_not c.wants.ensures (rw (get_or-set_same c.args.chosen.now c.args.c c.wants.result false (omega arith)) at c.if-not-chosen-c.true)

pub returns : goal.returns
returns c =
    turn_taken
    c.wants.ensures
    (rw (get_or-set_same c.args.chosen.now c.args.c c.wants.result false (omega arith)) at c.if-not-chosen-c.false)
    (elim c.if-self.branch [ then-self w ↦ omega (arith, w.counts-is, ap {B = ℕ} (λ (d : Bool). cond d 5 3) w.if-self.true) | else-self w ↦ omega (arith, w.counts-is, ap {B = ℕ} (λ (d : Bool). cond d 5 3) w.if-self.false) ])
    c.note_run.ensures
