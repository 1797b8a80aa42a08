-- `condition` is the text of a record, or the body of an entry.
use mathlib.Core.Path.{sym, ◌∙◌}
use Rattle.specification.proofs.Conditions.{condition_there, condition_record, condition_body}
use Rattle.specification.proofs.texts.Texts.condition.Goals as goal

pub returns-then-r-count : goal.returns-then-r-count
returns-then-r-count c = c.text.ensures ∙ sym (condition_record _ _ _ c.if-r-count.true)

pub body-requires : goal.body-requires
body-requires c = condition_there c.args.self.placed.laid _ c.if-r-count.false c.requires

pub returns : goal.returns
returns c = c.body.ensures ∙ sym (condition_body _ _ _ c.if-r-count.false)
