-- `rule_of` is the state of a rule, by whether its record is a state's.
use mathlib.Core.Path.{sym, ◌∙◌}
use Rattle.specification.proofs.Firing.{rule_state, rule_evolution}
use Rattle.specification.proofs.records.Records.rule_of.Goals as goal

pub returns-then-r-self : goal.returns-then-r-self
returns-then-r-self c = sym (rule_state _ _ _ c.if-r-self.true)

pub returns : goal.returns
returns c = c.from.ensures ∙ c.source.ensures ∙ sym (rule_evolution _ _ _ c.if-r-self.false)
