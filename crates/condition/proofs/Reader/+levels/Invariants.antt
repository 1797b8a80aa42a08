-- The levels of the grammar end. Each one's measure is what is left of the text, nine times over, and its place in the order in which
-- they call each other at one position; only `enclosed` calls at a later one. The loop's invariant is `Begun`, and its measure what is
-- left of the text.
use Rattle.std.proofs.Common.{ℕ, ◌-◌, ◌+◌, ◌*◌, length}
use Rattle.condition.specs.Condition.{parentheses}
use Rattle.condition.specs.inner.Parts.{join_of}
use Rattle.condition.specs.declared.Join.{Join}
use Rattle.condition.specs.declared.Join.TheVariants.{Or, And}
use Rattle.condition.proofs.Parts.{Begun}
use Rattle.condition.proofs.Reader.+levels.Given as goal

-- a condition's place is above that of a term
abbrev order : Join → ℕ
order Or = 3
order And = 0

abbrev pub decreases-enclosed : goal.decreases-enclosed
decreases-enclosed l = 9 * (length l.self.now.text.now - l.at)

abbrev pub decreases-bare : goal.decreases-bare
decreases-bare l = 9 * (length l.self.now.text.now - l.at) + 1

abbrev pub decreases-factor : goal.decreases-factor
decreases-factor l = 9 * (length l.self.now.text.now - l.at) + 2

abbrev pub decreases-part : goal.decreases-part
decreases-part l = 9 * (length l.self.now.text.now - l.at) + 3 + order l.join

abbrev pub decreases-joined : goal.decreases-joined
decreases-joined l = 9 * (length l.self.now.text.now - l.at) + 4 + order l.join

abbrev pub decreases-term : goal.decreases-term
decreases-term l = 9 * (length l.self.now.text.now - l.at) + 5

abbrev pub decreases-condition : goal.decreases-condition
decreases-condition l = 9 * (length l.self.now.text.now - l.at) + 8

abbrev pub invariant-joined-loop-next : goal.invariant-joined-loop-next
invariant-joined-loop-next l = Begun (join_of l.join) l.self.inputs l.self.setting (parentheses - l.self.opened) l.self.text.now l.at l.all l.from

abbrev pub decreases-joined-loop-next : goal.decreases-joined-loop-next
decreases-joined-loop-next l = length l.self.text.now - l.from
