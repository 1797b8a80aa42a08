-- A byte is written where it fits.
use mathlib.Core.Path.{refl}
use Rattle.show.proofs.Steps.{adds_byte, adds_past}
use Rattle.show.proofs.text.Text.byte.Goals as goal

pub returns-then-self : goal.returns-then-self
returns-then-self c = adds_past _ _ c.if-self.true

pub returns : goal.returns
returns c = adds_byte _ _ _ c.if-self.false refl refl refl
