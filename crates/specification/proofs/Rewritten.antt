-- What it is for one file to be another with rest conditions written into it: they share words, evolutions and the bodies beyond kind 4,
-- and the text of each state is the negated sum of the conditions of its evolutions.
use mathlib.Core.Path.{◌≡◌, sym, ◌∙◌}
use mathlib.Core.List.{List}
use Prim.Native.Nat.{ℕ, ◌+◌, ◌≤◌, ◌<◌}
use native.Mathlib.Omega.{arith}
use Rattle.specification.specs.File.{count_of, kind_of, body_of, kinds}
use Rattle.specification.specs.Records.{records, word, source, target}
use Rattle.specification.specs.Rules.{text_of}
use Rattle.specification.specs.Rests.{rest_text}
use Rattle.specification.specs.declared.records.Sizes.{Sizes}

-- the sizes, the records from c on having a condition; and with a rest condition of each state
abbrev pub worded_from : Sizes → ℕ → Sizes
worded_from z c = record { inputs = z.inputs; outputs = z.outputs; states = z.states; initial = z.initial; evolutions = z.evolutions; first = z.first; more = z.more; worded = c }

abbrev pub rested : Sizes → Sizes
rested z = worded_from z 0

-- g has the words, evolutions and bodies beyond kind 4 of f, whose first entries are of kinds 1 to 4
pub record Shares (z : Sizes) (f g : List ℕ) : Type 0 where
  pub words : (s : ℕ) → s < z.states → word g z s ≡ word f z s
  pub sources : (r : ℕ) → z.states ≤ r → r < records z → source g z r ≡ source f z r
  pub targets : (r : ℕ) → z.states ≤ r → r < records z → target g z r ≡ target f z r
  pub enough : kinds ≤ count_of f
  pub always : (k : ℕ) → k < kinds → kind_of f k ≡ k + 1
  pub count : count_of g ≡ count_of f
  pub kinds_same : (k : ℕ) → k < count_of f → kind_of g k ≡ kind_of f k
  pub bodies : (k : ℕ) → kinds ≤ k → k < count_of f → body_of g k ≡ body_of f k

pub shares_back : {z : Sizes} {f g : List ℕ} → Shares z f g → Shares z g f
shares_back {z} {f} {g} x =
    let within : (k : ℕ) → k < count_of g → k < count_of f = λ k h. omega (arith, x.count) in
    record {
      words = λ s h. sym (x.words s h);
      sources = λ r a b. sym (x.sources r a b);
      targets = λ r a b. sym (x.targets r a b);
      enough = omega (arith, x.count, x.enough);
      always = λ k h. x.kinds_same k (omega (arith, x.enough)) ∙ x.always k h;
      count = sym x.count;
      kinds_same = λ k h. sym (x.kinds_same k (within k h));
      bodies = λ k a h. sym (x.bodies k a (within k h));
    }

-- g is f with rest conditions
pub record Rewritten (f g : List ℕ) (z : Sizes) : Type 0 where
  pub worded : z.worded ≡ z.states
  pub shares : Shares z f g
  pub texts : (r : ℕ) → z.states ≤ r → r < records z → text_of g z r ≡ text_of f z r
  pub rests : (s : ℕ) → s < z.states → text_of g z s ≡ rest_text f z s
