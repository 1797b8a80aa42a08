-- Facts on prefixes and the layout of a file that several proofs cite: each by the law of one more step, and by arithmetic.
use mathlib.Core.Path.{◌≡◌, refl, sym, ap, subst, ◌∙◌}
use mathlib.Core.Bool.{Bool, true, false, cond}
use mathlib.Core.List.{List}
use mathlib.Core.Logic.{◌⊎◌, inl, inr}
use Prim.Native.Nat.{ℕ, zero, suc, ◌+◌, ◌*◌, ◌/◌, ◌^◌, ◌≤◌, ◌<◌}
use native.Mathlib.Omega.{arith}
use native.Mathlib.Numerals.{add-one}
use lib.ListN.{length, get_or, take, length-take}
use lib.Seq.{get_or-take, ext_get_or, length-take-le}
use Rattle.specification.specs.File.{rests_of, count_of, entry_at, start_of, length_of, kinds, WellFormed}
use Rattle.verdict.specs.Below.{sum_to}
use Rattle.verdict.proofs.Below.{sum_le}
use Rattle.specification.specs.Records.{sizes_of, Sized, records, word, source, target, Beyond, output_beyond, source_beyond, target_beyond}
use Rattle.specification.specs.inner.Private.{Laid}
use Rattle.specification.specs.declared.records.Sizes.{Sizes}

-- a prefix, by its elements
module _ (file mark : List ℕ) where
  pub prefix_long : take (length mark) file ≡ mark → length mark ≤ length file
  prefix_long e = omega (arith, length-take (length mark) file, ap length e)

  pub prefix_at : (i : ℕ) → i < length mark → take (length mark) file ≡ mark → get_or file i 0 ≡ get_or mark i 0
  prefix_at i h e = sym (get_or-take (length mark) file i 0 h) ∙ ap (λ (l : List ℕ). get_or l i 0) e

  pub prefix_all : length mark ≤ length file → ((k : ℕ) → k < length mark → get_or file k 0 ≡ get_or mark k 0) → take (length mark) file ≡ mark
  prefix_all h all =
      ext_get_or 0 (take (length mark) file) mark (length-take-le (length mark) file h)
      (λ i l. let q : i < length mark = omega (arith, length-take (length mark) file) in get_or-take (length mark) file i 0 q ∙ all i q)

-- bodies end to end
pub start_first : (file : List ℕ) → start_of file 0 ≡ entry_at (count_of file)
unfolding start_of
start_first file = refl

pub start_more : (file : List ℕ) (k : ℕ) → start_of file (k + 1) ≡ start_of file k + length_of file k
unfolding start_of
start_more file k = rw add-one

-- bodies by their lengths, summed
start_sum : (file : List ℕ) (k : ℕ) → start_of file k ≡ entry_at (count_of file) + sum_to (length_of file) k
unfolding start_of sum_to
start_sum file zero = omega arith
start_sum file (suc k) = omega (arith, start_sum file k)

pub start_le : (file : List ℕ) (k n : ℕ) → k ≤ n → start_of file k ≤ start_of file n
start_le file k n h = omega (arith, start_sum file k, start_sum file n, sum_le (length_of file) k n h)

-- each evolution has a condition
pub worded_few : (rests : Bool) (states : ℕ) → cond rests 0 states ≤ states
worded_few true states = omega arith
worded_few false states = omega arith

-- the records and the texts lie in the file
pub laid_out : (file : List ℕ) → WellFormed file → (start_of file 1 ≡ start_of file 0 + 4) × (start_of file 1 + length_of file 1 + 3 * (length_of file 2 / 3) + length_of file 3 ≡ start_of file kinds) × (start_of file kinds ≤ length file)
unfolding start_of
laid_out file w = (omega (arith, w.measured.sizes), omega (arith, w.measured.evolutions), omega (arith, w.entries.ends, start_le file kinds (count_of file) w.headed.count))

pub laid : (file : List ℕ) → WellFormed file → Sized file → Laid file (sizes_of file)
laid file w s =
    let e = laid_out file w in
    record {
      formed = w;
      ranges = s.ranges;
      counted = refl;
      worded = worded_few (rests_of file) (sizes_of file).states;
      texts = omega (arith, e.1, e.2, s.states, s.texts);
      few = w.headed.few;
    }

-- by the sizes that are read
pub laid_read : {file : List ℕ} {z : Sizes} → WellFormed file × Sized file × (z ≡ sizes_of file) → Laid file z
laid_read {file} s = subst (Laid file) (sym s.2) (laid file s.0 s.1)

-- refusal 4, of a state's record and of an evolution's
module _ {file : List ℕ} {z : Sizes} {r : ℕ} where
  pub beyond_word : r < z.states → Beyond file z r → 2 ^ z.outputs ≤ word file z r
  beyond_word h (output_beyond l w) = w
  beyond_word h (source_beyond e w) = absurd (omega (arith, e.after))
  beyond_word h (target_beyond e w) = absurd (omega (arith, e.after))

  pub beyond_state : z.states ≤ r → Beyond file z r → (z.states ≤ source file z r) ⊎ (z.states ≤ target file z r)
  beyond_state h (output_beyond l w) = absurd (omega arith)
  beyond_state h (source_beyond e w) = inl w
  beyond_state h (target_beyond e w) = inr w

  pub beyond_below : Beyond file z r → r < records z
  beyond_below (output_beyond l w) = omega arith
  beyond_below (source_beyond e w) = e.below
  beyond_below (target_beyond e w) = e.below
