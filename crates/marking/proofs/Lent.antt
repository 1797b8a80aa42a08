-- What two methods of the queue change one after the other is what it is lent.
use mathlib.Core.Path.{◌∙◌}
use Rattle.marking.specs.declared.queue.Queue.{Queue}
use Rattle.marking.specs.inner.Lent.{Lent}

pub lent_then : (q q' q'' : Queue) → Lent q q' → Lent q' q'' → Lent q q''
lent_then q q' q'' x y = (y.0 ∙ x.0, y.1 ∙ x.1, y.2 ∙ x.2)
