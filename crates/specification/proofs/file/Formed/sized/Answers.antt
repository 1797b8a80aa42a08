-- `sized` asks for the ranges, the length of kind 2, the lengths of the states without a rest condition, which are zero where they sum to
-- zero, the sum of the condition lengths and the bodies beyond kind 4, one after the other.
use native.Mathlib.Omega.{arith}
use mathlib.Core.Path.{◌≡◌, sym, ap, subst}
use mathlib.Core.List.{List}
use Prim.Native.Nat.{ℕ, ◌*◌, ◌≤◌}
use Rattle.verdict.proofs.Tests.{it_fails, decides_map}
use Rattle.specification.specs.File.{rests_of, length_of, WellFormed}
use Rattle.verdict.specs.Below.{sum_to}
use Rattle.verdict.proofs.Below.{sum_below, sum_none}
use Rattle.specification.specs.Records.{records, text_length, sizes_of, Ranges}
use Rattle.specification.specs.inner.Private.{Inside}
use Rattle.specification.specs.declared.records.Sizes.{Sizes}
use Rattle.specification.proofs.Laws.{worded_few, laid_out}
use Rattle.specification.proofs.file.Formed.sized.Goals as goal

module _ {file : List ℕ} {z : Sizes} (w : WellFormed file) (e : z ≡ sizes_of file) where
  states_are : z.states ≡ (sizes_of file).states
  states_are = ap (λ z. z.states) e

  sum_is : sum_to (text_length file z) (records z) ≡ sum_to (text_length file (sizes_of file)) (records (sizes_of file))
  sum_is = ap (λ z. sum_to (text_length file z) (records z)) e

  empty_are : sum_to (text_length file z) z.worded ≡ sum_to (text_length file (sizes_of file)) (sizes_of file).worded
  empty_are = ap (λ z. sum_to (text_length file z) z.worded) e

  worded_states : z.worded ≤ z.states
  worded_states = subst (λ (z : Sizes). z.worded ≤ z.states) (sym e) (worded_few (rests_of file) (sizes_of file).states)

  -- the records lie in the file
  inside : Ranges z → length_of file 1 ≡ 3 * z.states → Inside file z
  inside r h = let o = laid_out file w in
      record { ranges = r; within = omega (arith, o.1, o.2, ap (λ z. z.evolutions) e, ap (λ z. z.first) e); few = w.headed.few }

pub invariant_of-records : goal.invariant_of-records
invariant_of-records c = record { inside = inside c.args.self.formed c.requires (c.in_range.ensures.holds c.if-not-in_range.false) (omega (arith, c.length.ensures.is, c.if-length-z.false)) }

pub texts_sum-requires : goal.texts_sum-requires
texts_sum-requires c = omega (arith, worded_states c.args.self.formed c.requires)

pub returns-then-texts_sum-ne0 : goal.returns-then-texts_sum-ne0
returns-then-texts_sum-ne0 c = it_fails λ e. omega (arith, c.if-texts_sum-ne0.true, c.texts_sum.ensures, sum_none _ _ e.empty, empty_are c.args.self.formed c.requires)

pub returns-then-texts_sum-length : goal.returns-then-texts_sum-length
returns-then-texts_sum-length c = it_fails λ e. omega (arith, c.if-texts_sum-length.true, c.texts_sum-2.ensures, c.length-2.ensures.is, e.texts, sum_is c.args.self.formed c.requires)

pub returns : goal.returns
returns c =
    let w = c.args.self.formed in
    let p = c.requires in
    let file = c.args.self.file.now in
    decides_map
    (λ e.
    record {
      ranges = subst Ranges p (c.in_range.ensures.holds c.if-not-in_range.false);
      states = omega (arith, c.if-length-z.false, c.length.ensures.is, states_are w p);
      empty = λ s l. omega (arith, c.if-texts_sum-ne0.false, c.texts_sum.ensures, empty_are w p, sum_below (text_length file (sizes_of file)) s (sizes_of file).worded l);
      texts = omega (arith, c.if-texts_sum-length.false, c.texts_sum-2.ensures, c.length-2.ensures.is, sum_is w p);
      bodies = e;
    })
    (λ s. s.bodies)
    c.bodies_fit.ensures
