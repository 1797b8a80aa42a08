-- The levels of the grammar meet their contracts. What each finds, or where it fails, is told by the laws of Parts, from what those
-- that it calls find.
use Rattle.std.proofs.Common.{arith, rules, refl, ◌-◌, eqb, drop}
use Rattle.std.proofs.lemmas.List.Sums.{prefix_len-le-length}
use Rattle.std.proofs.lemmas.List.{length-drop}
use Rattle.condition.specs.inner.Parts.{At, FailedAt}
use Rattle.condition.specs.Condition.{parentheses}
use Rattle.condition.specs.Grammar.{factor}
use Rattle.condition.specs.inner.Parts.{join_of}
use Rattle.condition.proofs.Parts.{behind, negated_found, negated_fails, one_too_many, off_found, on_found, input_found, closed_found, inside_fails, unclosed_fails, join_found, begun_more, begun_fails}
use Rattle.condition.proofs.Parts.Begun.{some}
use Rattle.condition.proofs.Reader.+levels.Goals as goal

-- parts joined
pub joined-returns-in_err-next : goal.joined-returns-in_err-next
joined-returns-in_err-next t c = let f = begun_fails (join_of c.args.join) c.loop-next.invariant c.in_err-next.ensures in search rules

pub joined-returns-then-not-stands : goal.joined-returns-then-not-stands
joined-returns-then-not-stands t c =
    let more = begun_more (join_of c.args.join) c.loop-next.invariant c.in_ok-next.ensures in
    rw c.of-all.ensures (join_found (join_of c.args.join) more (rw (← c.byte.ensures) (c.stands.ensures.fails c.if-not-stands.true)))

pub joined-loop-next-preserved : goal.joined-loop-next-preserved
joined-loop-next-preserved t c =
    let h = rw c.byte.ensures at (c.stands.ensures.holds c.if-not-stands.false) in
    rw c.of-all.ensures (some refl (begun_more (join_of c.args.join) c.loop-next.invariant c.in_ok-next.ensures) h)

-- a factor behind `!`
pub factor-overflow_add-at : goal.factor-overflow_add-at
factor-overflow_add-at t c =
    let k = prefix_len-le-length (λ d. eqb d 33) (drop c.args.at c.args.self.now.text.now) in
    omega (arith, c.bangs-bangs.ensures, simp length-drop at k)

pub factor-bare-requires : goal.factor-bare-requires
factor-bare-requires t c = (omega arith, behind _ _ _ c.bangs-bangs.ensures)

pub factor-returns-in_err-bare : goal.factor-returns-in_err-bare
factor-returns-in_err-bare t c = let f = negated_fails c.bangs-bangs.ensures c.in_err-bare.ensures in search rules

pub factor-returns : goal.factor-returns
factor-returns t c = negated_found c.bangs-bangs.ensures c.in_ok-bare.ensures

-- one character
pub bare-returns-in-Some-eq48 : goal.bare-returns-in-Some-eq48
bare-returns-in-Some-eq48 t c = let h : At c.args.self.now.text.now c.args.at 48 = search rules in off_found h refl

pub bare-returns-in-Some-eq49 : goal.bare-returns-in-Some-eq49
bare-returns-in-Some-eq49 t c = let h : At c.args.self.now.text.now c.args.at 49 = search rules in on_found h refl

pub bare-returns-in-Some-97-to-104 : goal.bare-returns-in-Some-97-to-104
bare-returns-in-Some-97-to-104 t c =
    let h : At c.args.self.now.text.now c.args.at c.in-Some-97-to-104.letter = search rules in
    input_found h (c.in-Some-97-to-104.letter - 97) (omega arith) (omega arith)

-- a condition in parentheses
pub enclosed-returns-then-self-ge-PARENTHESES : goal.enclosed-returns-then-self-ge-PARENTHESES
enclosed-returns-then-self-ge-PARENTHESES t c = one_too_many c.requires (omega arith)

pub enclosed-returns-in_err-part : goal.enclosed-returns-in_err-part
enclosed-returns-in_err-part t c =
    let f : FailedAt factor c.args.self.now.inputs (parentheses - c.args.self.now.opened) c.args.self.now.text.now c.args.at c.in_err-part.field-0.0.place =
    inside_fails c.requires (omega arith) c.in_err-part.ensures in
    search rules

pub enclosed-returns-then-not-stands : goal.enclosed-returns-then-not-stands
enclosed-returns-then-not-stands t c = unclosed_fails c.requires (omega arith) c.in_ok-part.ensures (c.stands.ensures.fails c.if-not-stands.true)

pub enclosed-returns : goal.enclosed-returns
enclosed-returns t c = closed_found c.requires (omega arith) c.in_ok-part.ensures (c.stands.ensures.holds c.if-not-stands.false)
