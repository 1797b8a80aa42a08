-- `search` scans the rules of each couple and notes the move: no couple below s * m + v has two rules, those bytes are noted, and the tally of
-- the couple's rules with a condition below r is in `to`. A record between two links is no rule of the state.
use borrow.Author.Rules.{rules}
use native.Mathlib.Omega.{arith}
use mathlib.Core.Path.{◌≡◌, refl, sym, ap, subst, ◌∙◌}
use Prim.Native.Nat.{◌+◌, ◌*◌, ◌<◌}
use lib.Arith.{digits_lt}
use Rattle.verdict.specs.Checks.{Finds}
use Rattle.verdict.proofs.Tests.{unseen_start, unseen_more, unseen_at, unseen_end}
use Rattle.verdict.proofs.Fills.{filled_none, filled_at, filled_map, filled_widen}
use Rattle.machine.proofs.Couples.{next_state, couples_bound, couple_below}
use Rattle.specification.specs.Rules.{leads_to}
use Rattle.specification.specs.inner.Private.{rest_of}
use Rattle.specification.proofs.Scan.{Tally, Applies, Begins, begins, tally_start, tally_skip, tally_past, tally_take, tally_two, two_fire, leads_away, tally_all, tally_at, tally_noted, no_two, onward_start, onward_more}
use Rattle.specification.proofs.texts.Texts.search.Goals as goal
use Rattle.specification.proofs.texts.Texts.search.Goals.{then-holds+else-to-rest, else-holds}

pub search-init : goal.search-init
search-init c = (search rules, search rules, unseen_at unseen_start (omega arith), filled_at (filled_none _) (omega arith))

pub first_rule-first-requires : goal.first_rule-first-requires
first_rule-first-requires c = omega (arith, c.args.self.placed.laid.ranges.few_states)

pub rest_of-rest-requires : goal.rest_of-rest-requires
rest_of-rest-requires c = omega (arith, c.args.self.placed.laid.ranges.few_states)

pub loop-v-init : goal.loop-v-init
loop-v-init c = (search rules, search rules, unseen_at c.search.invariant.2 (omega arith), omega (arith, c.search.invariant.3.same_length), onward_start (omega arith))

pub overflow_mul-p : goal.overflow_mul-p
overflow_mul-p c = omega (arith, couples_bound c.search.s c.args.m (omega arith) (omega arith))

pub overflow_add-p : goal.overflow_add-p
overflow_add-p c = omega (arith, couples_bound c.search.s c.args.m (omega arith) (omega arith))

pub loop-r-init : goal.loop-r-init
loop-r-init c =
    let b = subst (Begins c.args.self.file.now c.args.self.z c.search.s) (sym c.first_rule-first.ensures) (begins (omega arith) c.args.self.placed.laid.worded c.requires.linked) in
    (omega (arith, b.upto), λ h. b.same (omega arith), search rules, tally_start b c.rest_of-rest.ensures, b.worded)

pub loop-r-smaller : goal.loop-r-smaller
loop-r-smaller c = omega (arith, (c.requires.linked.at c.loop-r.r (omega arith)).after)

-- record r is seen: it is the rule, or does not hold
pub loop-r-preserved : goal.loop-r-preserved
loop-r-preserved c =
    let f = c.requires.linked.at c.loop-r.r (omega arith) in
    let is = c.loop-r.invariant.1 (omega arith) in
    let seen : Tally (Applies c.args.self.file.now c.args.self.z c.search.s c.loop-v.v) (leads_to c.args.self.file.now c.args.self.z) (rest_of c.args.self.z.worded c.search.s) (c.loop-r.r + 1) c.if-holds.to = elim c.if-holds.branch [
      | then-holds+else-to-rest w ↦ tally_at (tally_take c.loop-r.invariant.3 (let n = w.if-to-rest.false in omega (arith, c.rest_of-rest.ensures)) (leads_away c.args.self.placed.laid.ranges.few_states c.requires.own (omega arith) is c.loop-r.invariant.4 (c.requires.leads c.loop-r.r (omega arith))) (record { below = omega arith; rule = is; worded = c.loop-r.invariant.4; holds = c.holds.ensures.holds w.if-holds.true })) refl (w.to-is ∙ w.leads_to-to.ensures)
      | else-holds w ↦ tally_at (tally_skip c.loop-r.invariant.3 (λ f. c.holds.ensures.fails w.if-holds.false f.holds)) refl w.to-is
    ] in
    (omega (arith, f.upto), λ h. f.same (omega arith) ∙ is, search rules, tally_past seen (omega (arith, f.after)) (λ q h l g. f.between q h (omega arith) (g.rule ∙ sym is)), omega (arith, f.after, c.loop-r.invariant.4))

pub bounds-table-p : goal.bounds-table-p
bounds-table-p c = omega (arith, c.loop-v.invariant.3, digits_lt c.search-test.true c.loop-v-test.true)

pub loop-v-preserved : goal.loop-v-preserved
loop-v-preserved c =
    let h = c.loop-v-test.true in
    let t = tally_all c.args.self.placed.laid c.search-test.true c.requires.leads (omega arith) c.loop-r.invariant.3 in
    (search rules, search rules, unseen_at (unseen_more c.loop-v.invariant.2 (no_two h t (omega arith))) (omega arith), search rules, onward_more c.loop-v.invariant.4 (omega (arith, c.loop-v.invariant.3, digits_lt c.search-test.true h)) (tally_noted h t (omega arith)) (omega arith))

pub search-preserved : goal.search-preserved
search-preserved c =
    let n = next_state c.args.m c.search.s in
    (search rules, search rules, unseen_at c.loop-v.invariant.2 (omega (arith, n)), filled_at (c.loop-v.invariant.4.since _ c.search.invariant.3) (omega (arith, n)))

pub shape_of-table-after-search : goal.shape_of-table-after-search
shape_of-table-after-search c = c.search.invariant.3.same_length

pub returns-after-search : goal.returns-after-search
returns-after-search c =
    let i = c.search.invariant in
    let e : c.args.self.z.states ≡ c.search.s = omega arith in
    record { finds = subst (Finds _) (sym i.1) (unseen_end i.2 (λ p t. subst (λ s. p < s * c.args.m) e (couple_below t.couple))); fills = filled_map (λ k x h y e. y) (filled_at i.3 (ap (λ s. s * c.args.m) (sym e))) }

pub shape_of-table-then-to-rest : goal.shape_of-table-then-to-rest
shape_of-table-then-to-rest c = (c.loop-v.invariant.4.since _ c.search.invariant.3).same_length

pub returns-then-to-rest : goal.returns-then-to-rest
returns-then-to-rest c =
    let i = c.loop-r.invariant in record {
      finds = record {
        here = record { couple = record { state = c.search-test.true; setting = c.loop-v-test.true; number = refl }; two = two_fire (tally_two i.3 (λ e. c.if-to-rest.true (e ∙ sym c.rest_of-rest.ensures)) (record { below = omega arith; rule = i.1 (omega arith); worded = i.4; holds = c.holds.ensures.holds c.if-holds.true })); s = _; v = _ };
        first = c.loop-v.invariant.2.none;
      };
      fills = filled_widen (omega (arith, digits_lt c.search-test.true c.loop-v-test.true)) (λ k x e. absurd (cc)) (c.loop-v.invariant.4.since _ c.search.invariant.3);
    }
