-- The word and the number, then the settings.
use mathlib.Core.List.{append_assoc, map}
use Rattle.show.specs.Digits.{digits}
use Rattle.show.specs.Sheet.{fields_behind}
use Rattle.show.proofs.Steps.{adds_cut}
use Rattle.show.proofs.text.Text.run_line.Goals as goal

pub returns-in_err-named : goal.returns-in_err-named
returns-in_err-named c = rw append_assoc at (adds_cut (fields_behind (map digits c.args.settings.now)) c.in_err-named.ensures c.from_residual.ensures.0)
