-- `mark_exact` blanks the weights and parents, fills them where no check fails, and tells the ranks by the weights.
use native.Mathlib.Omega.{arith}
use Rattle.marking.proofs.Outcomes.{marked}
use Rattle.marking.proofs.mark_exact.Goals as goal

pub returns : goal.returns
returns c = marked c.requires.0 c.requires.1 (omega arith) c.weigh-result.ensures c.give_ranks.ensures
