-- `change` reads the move of the couple entered, and numbers both couples: they have marks.
use Rattle.std.proofs.Common.{arith, ◌≡◌, ◌<◌, ◌∙◌, ap, get_or, ℕ}
use Rattle.machine.specs.Runs.{move}
use Rattle.machine.proofs.Sizes.{couples_few}
use Rattle.tables.specs.Tables.{machine_in}
use Rattle.shorten.proofs.change.Goals as goal

pub returns : goal.returns
returns c =
    let few = couples_few c.args.sound.checked.tabled.sized in
    let (state, setting) = c.requires in
    let entered = c.couple-entered.ensures.inside state setting in
    let is : c.from-moved.result ≡ move (machine_in c.args.sound.job) c.args.state c.args.setting = c.from-moved.ensures ∙ ap (λ (k : ℕ). get_or c.args.sound.job.table.now k 0) entered.0 in
    let below : c.from-moved.result < c.args.sound.job.frame.states = rw is (c.args.sound.checked.sound.closed _ (rw entered.0 at entered.1)) in
    let moved = c.couple.ensures.inside below setting in
    record {
      entered = entered.0;
      moved = rw is at moved.0;
      state = is;
      entered_below = omega (arith, entered.1);
      moved_below = omega (arith, moved.1);
      state_below = below;
    }
