-- `set_in` is the set of the body whose entry it finds: a kind has one entry.
use mathlib.Core.Path.{refl}
use Rattle.specification.specs.inner.Private.{there, without}
use Rattle.specification.proofs.Optional.{kind_set}
use Rattle.specification.proofs.specification.Specification.set_in.Goals as goal

pub returns-in-Some : goal.returns-in-Some
returns-in-Some c =
    let l = c.args.self.laid in
    let o = c.in-Some.ensures.here in
    there (_, o) (kind_set l.formed.entries o c.body.ensures (c.set_of.ensures.few l.ranges.few_inputs))

pub returns-in-None : goal.returns-in-None
returns-in-None c = without (λ h. c.in-None.ensures.nowhere h.0 h.1) refl
