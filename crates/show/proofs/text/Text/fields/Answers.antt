-- What is left of the line is that of the settings left; at the end it is the line feed.
use Rattle.show.proofs.Lists.{drop_next}
use Rattle.show.proofs.Steps.{left_less, left_cut}
use Rattle.show.proofs.text.Text.fields.Goals as goal

pub returns-in_err-field : goal.returns-in_err-field
returns-in_err-field c = left_cut _ (rw (drop_next c.args.settings.now c.loop-setting.setting-index c.loop-setting-test.true) at c.loop-setting.invariant) (rw c.from.ensures at c.in_err-field.ensures) c.from_residual.ensures.0

pub loop-setting-preserved : goal.loop-setting-preserved
loop-setting-preserved c = left_less (rw (drop_next c.args.settings.now c.loop-setting.setting-index c.loop-setting-test.true) at c.loop-setting.invariant) (rw c.from.ensures at c.in_ok-field.ensures)
