-- `leads_to` is where a rule leads, by whether its record is a state's.
use mathlib.Core.Path.{sym, ◌∙◌}
use Rattle.specification.proofs.Firing.{leads_state, leads_evolution}
use Rattle.specification.proofs.records.Records.leads_to.Goals as goal

pub returns-then-r-self : goal.returns-then-r-self
returns-then-r-self c = sym (leads_state _ _ _ c.if-r-self.true)

pub returns : goal.returns
returns c = c.target.ensures ∙ sym (leads_evolution _ _ _ c.if-r-self.false)
