-- The file with rest conditions passes checks 1 and 2, as the file it is written from does: its sizes are the same, its contents say where
-- its bodies lie, and its text lengths sum to kind 4, which grew by the rest conditions.
use mathlib.Core.Path.{◌≡◌, refl, sym, ap, subst, ◌∙◌}
use mathlib.Core.Bool.{true, false}
use mathlib.Core.List.{List}
use Prim.Native.Nat.{ℕ, suc, ◌+◌, ◌*◌, ◌≤◌, ◌<◌}
use native.Mathlib.Omega.{arith}
use lib.ListN.{length, take}
use Rattle.verdict.specs.Below.{sum_to}
use Rattle.specification.specs.Limits.{most_bytes}
use Rattle.specification.specs.File.{mark, rests_of, count_of, kinds, length_of, start_of, WellFormed}
use Rattle.specification.specs.Records.{sizes_of, records, text_length, Ranges, Sized}
use Rattle.specification.specs.Rests.{grown, with_rests}
use Rattle.specification.specs.declared.records.Sizes.{Sizes}
use Rattle.specification.proofs.Forms.{all_worded}
use Rattle.specification.proofs.Rewritten.{rested}
use Rattle.specification.proofs.Places.{count_is, kind_is, offset_is, length_of_lem, start_is, all_grown, length_same, length_is, size_same, texts_before}

module _ (f : List ℕ) where
  abbrev z : Sizes
  z = sizes_of f

  abbrev g : List ℕ
  g = with_rests f

  marked : take 4 g ≡ mark (rests_of g)
  unfolding with_rests
  marked = refl

  rests : rests_of g ≡ true
  unfolding with_rests
  rests = refl

  module _ (wf : WellFormed f) (sz : Sized f) where
    lengths : (k : ℕ) → k < kinds → length_of g k ≡ length_of f k + grown f k
    lengths k h = length_of_lem f k (omega (arith, wf.headed.count))

    -- ---- check 1
    pub formed : length g ≤ most_bytes → WellFormed g
    formed few =
        let within : (k : ℕ) → k < count_of g → k < count_of f = λ k h. omega (arith, count_is f) in
        record {
          headed = record {
            few = few;
            marked = marked;
            count = omega (arith, count_is f, wf.headed.count);
            enough = omega (arith, count_is f, length_is f wf sz, wf.headed.enough);
          };
          entries = record {
            always = λ k h. kind_is f k (omega (arith, wf.headed.count)) ∙ wf.entries.always k h;
            rising = λ k h. let l = within (suc k) h in omega (arith, kind_is f k (omega arith), kind_is f (suc k) l, wf.entries.rising k l);
            known = λ k h. let l = within k h in omega (arith, kind_is f k l, wf.entries.known k l);
            offset = λ k h. let l = within k h in omega (arith, offset_is f k l, wf.entries.offset k l, start_is f k (omega arith));
            ends =
                ap (start_of g) (count_is f)
                ∙ omega (arith, start_is f (count_of f) (omega arith), all_grown f (count_of f) wf.headed.count, wf.entries.ends, length_is f wf sz);
          };
          measured = record {
            sizes = omega (arith, lengths 0 (omega arith), wf.measured.sizes);
            states = omega (arith, lengths 1 (omega arith), wf.measured.states);
            evolutions = omega (arith, lengths 2 (omega arith), wf.measured.evolutions);
          };
        }

    -- ---- the sizes
    pub sizes_are : sizes_of g ≡ rested z
    unfolding start_of sum_to
    sizes_are =
        let start = start_is f 0 (omega arith) in
        let same = size_same f wf sz in
        let inputs : (sizes_of g).inputs ≡ z.inputs = same (start_of g 0) (start_of f 0) (omega arith) (omega arith) (omega arith) in
        let outputs : (sizes_of g).outputs ≡ z.outputs = same (start_of g 0 + 1) (start_of f 0 + 1) (omega arith) (omega arith) (omega arith) in
        let states : (sizes_of g).states ≡ z.states = same (start_of g 0 + 2) (start_of f 0 + 2) (omega arith) (omega arith) (omega arith) in
        let initial : (sizes_of g).initial ≡ z.initial = same (start_of g 0 + 3) (start_of f 0 + 3) (omega arith) (omega arith) (omega arith) in
        let evolutions : (sizes_of g).evolutions ≡ z.evolutions = omega (arith, lengths 2 (omega arith)) in
        let first : (sizes_of g).first ≡ z.first = omega (arith, start_is f 1 (omega (arith, wf.headed.count))) in
        let more : (sizes_of g).more ≡ z.more = omega (arith, count_is f) in
        λ i.
        record {
          inputs = inputs i;
          outputs = outputs i;
          states = states i;
          initial = initial i;
          evolutions = evolutions i;
          first = first i;
          more = more i;
          worded = all_worded g rests i;
        }

    -- ---- check 2
    ranges : Ranges (rested z)
    ranges =
        let r = sz.ranges in
        record {
          some_input = r.some_input;
          few_inputs = r.few_inputs;
          some_output = r.some_output;
          few_outputs = r.few_outputs;
          some_state = r.some_state;
          few_states = r.few_states;
          begins = r.begins;
          few_evolutions = r.few_evolutions;
        }

    pub sized : rests_of f ≡ false → Sized g
    sized without =
        let states : length_of g 1 ≡ 3 * z.states = omega (arith, lengths 1 (omega arith), sz.states) in
        let before = texts_before f wf sz without (records z) (omega arith) (omega arith) in
        let texts : sum_to (text_length g z) (records z) ≡ length_of g 3 = omega (arith, before, sz.texts, lengths 3 (omega arith)) in
        record {
          ranges = subst Ranges (sym sizes_are) ranges;
          states = subst (λ y. length_of g 1 ≡ 3 * y.states) (sym sizes_are) states;
          empty = λ s h. absurd (omega (arith, all_worded g rests));
          texts = ap (λ y. sum_to (text_length g y) (records y)) sizes_are ∙ texts;
          bodies = λ k l h. let m : k < count_of f = omega (arith, count_is f) in omega (arith, length_same f k l m, sz.bodies k l m);
        }
