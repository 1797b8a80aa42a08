-- `hand_on` fills one record a turn: the first e are the evolutions, the others stay, and `at` is where the text of evolution e starts.
use native.Mathlib.Omega.{arith}
use mathlib.Core.List.{List, ◌++◌}
use mathlib.Core.Path.{◌≡◌, ap, ap₂, ◌∙◌}
use Prim.Native.Nat.{ℕ, ◌+◌, ◌≤◌, ◌<◌}
use lib.ListN.{set, take, drop}
use lib.Seq.{length-take-le}
use Rattle.verdict.specs.Below.{sum_to}
use Rattle.verdict.proofs.Below.{sum_le, sum_more}
use Rattle.evolutions.specs.declared.Evolution.{Evolution}
use Rattle.specification.specs.Limits.{most_bytes}
use Rattle.specification.specs.Records.{records, text_length}
use Rattle.specification.specs.Rules.{text_at}
use Rattle.specification.specs.Evolutions.{evolution_of}
use Rattle.specification.specs.inner.Private.{Laid, evolution_at}
use Rattle.specification.specs.declared.records.Sizes.{Sizes}
use Rattle.specification.proofs.HandOn.{handed_none, handed_more, handed_all}
use Rattle.specification.proofs.specification.Specification.hand_on.Goals as goal

-- each text begins in the file, or at its end
begins : {file : List ℕ} {z : Sizes} → Laid file z → (r : ℕ) → r ≤ records z → text_at file z r ≤ most_bytes
begins {file} {z} l r h = omega (arith, sum_le (text_length file z) r (records z) h, l.texts, l.few)

pub overflow_add-at : goal.overflow_add-at
overflow_add-at c = omega (arith, begins c.args.self.laid c.args.self.z.states (omega arith), c.at.ensures, c.texts_sum.ensures)

pub loop-e-init : goal.loop-e-init
loop-e-init c =
    let f = c.args.self.file.now in
    let z = c.args.self.z in
    let e : z.states ≡ z.states + 0 = omega arith in
    let at : c.at.result + c.texts_sum.result ≡ text_at f z z.states = omega (arith, c.at.ensures, c.texts_sum.ensures) in
    (at ∙ ap (text_at f z) e, handed_none f z (take z.evolutions c.args.records.now))

pub evolution-requires : goal.evolution-requires
evolution-requires c =
    let n = length-take-le c.args.self.z.evolutions c.args.records.now c.requires in
    let h : c.loop-e.e < c.args.self.z.evolutions = omega (arith, n) in
    (omega arith, omega (arith, begins c.args.self.laid (c.args.self.z.states + c.loop-e.e) (omega arith), c.loop-e.invariant.0))

pub loop-e-preserved : goal.loop-e-preserved
loop-e-preserved c =
    let f = c.args.self.file.now in
    let z = c.args.self.z in
    let i = c.loop-e.e in
    let k : z.states + (i + 1) ≡ z.states + i + 1 = omega arith in
    let one : c.evolution.result ≡ evolution_of f z i = c.evolution.ensures ∙ ap (evolution_at f z (z.states + i)) c.loop-e.invariant.0 in (
      omega (arith, c.loop-e.invariant.0, sum_more (text_length f z) (z.states + i), ap (sum_to (text_length f z)) k, c.from-at.ensures, c.text_length.ensures),
      ap₂ (λ (rs : List Evolution) (e : Evolution). set rs i e) c.loop-e.invariant.1 one ∙ handed_more f z (take z.evolutions c.args.records.now) i (omega (arith, length-take-le z.evolutions c.args.records.now c.requires)),
    )

pub returns : goal.returns
returns c =
    let f = c.args.self.file.now in
    let z = c.args.self.z in
    let n = length-take-le z.evolutions c.args.records.now c.requires in
    ap (λ (rs : List Evolution). rs ++ drop z.evolutions c.args.records.now)
    (c.loop-e.invariant.1 ∙ handed_all f z (take z.evolutions c.args.records.now) c.loop-e.e z.evolutions n c.loop-e-test.false (omega (arith, n, c.loop-e.auto.e-end)))
