-- `frame` has the sets of kinds 5 and 6: without the first none, without the second setting 0 alone.
use native.Mathlib.Omega.{arith}
use mathlib.Core.Path.{◌≡◌, refl}
use lib.Pow.{pow_pos}
use Rattle.sets.specs.Sets.{words, SetOf}
use Rattle.sets.proofs.Arrays.{set_none, set_in, set_wide}
use Rattle.specification.specs.Records.{settings}
use Rattle.specification.proofs.Optional.{never_set, starts_set}
use Rattle.specification.proofs.specification.Specification.frame.Goals as goal

pub returns : goal.returns
returns c =
    let z = c.args.self.z in
    let first : SetOf words (settings z) (λ v. v ≡ 0) c.with.result =
    set_wide (set_in (set_none words 0 (λ v l. absurd (omega arith))) (omega arith) refl c.with.ensures.array c.with.ensures.members) (settings z) (pow_pos z.inputs) (λ v l _ e. omega arith) in
    record { inputs = refl; states = refl; initial = refl; never = never_set c.set_in-never.ensures; starts = starts_set first c.set_in-starts.ensures }
