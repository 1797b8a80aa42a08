-- `counts` meets its contract: the counts are those of the first i entries, each no more than i.
use native.Mathlib.Omega.{arith}
use native.Mathlib.Numerals.{add-one}
use mathlib.Core.Path.{◌≡◌, sym, ap, ◌∙◌}
use mathlib.Core.List.{List, [], ◌∷◌, ◌++◌}
use Prim.Native.Nat.{ℕ, ◌+◌}
use lib.ListN.{get_or, take, length-take}
use lib.Seq.{take-suc}
use Rattle.basics.specs.Words.{most_outputs}
use Rattle.verdict.specs.Below.{list_to}
use Rattle.bench.specs.Readings.{differs_in, one_if}
use Rattle.bench.specs.Log.{blank}
use Rattle.bench.proofs.Differing.{counts_of, counts_none, counts_few, counts_snoc}
use Rattle.bench.proofs.Log.counts.Goals as goal

pub loop-i-init : goal.loop-i-init
loop-i-init c = sym counts_none

pub count-requires : goal.count-requires
count-requires c = λ j h. rw c.loop-i.invariant (omega (arith, counts_few (take c.loop-i.i c.args.self.now.entries) j h, length-take c.loop-i.i c.args.self.now.entries, c.loop-i-test.true, c.requires))

pub loop-i-preserved : goal.loop-i-preserved
loop-i-preserved c =
    let es = c.args.self.now.entries in let i = c.loop-i.i in let r = get_or es i blank in
    let longer : take (i + 1) es ≡ take i es ++ r ∷ [] = rw add-one (take-suc es i blank (omega (arith, c.loop-i-test.true, c.requires))) in
    c.count.ensures ∙ ap (λ (cs : List ℕ). list_to (λ j. get_or cs j 0 + one_if (differs_in j r)) most_outputs) c.loop-i.invariant
    ∙ counts_snoc (take i es) r ∙ sym (ap counts_of longer)
