-- `first_twice` searches the records: only records fail.
use Rattle.std.proofs.Common.{arith, rules, tests}
use Rattle.std.proofs.lemmas.Iterator.{first_from_Range}
use Rattle.specification.specs.Records.{Twice}
use Rattle.verdict.proofs.Found.{found}
use Rattle.specification.proofs.records.Records.first_twice.Goals as goal

pub returns : goal.returns
returns c =
    let a = c.args.self in
    found c.find.result
    (first_from_Range _ _ _ _ (Twice a.file.now a.z) (λ r. Twice a.file.now a.z r → ⊥) c.find.ensures.ran
    (λ r q h. search (rules, tests))
    (λ r q h. (search rules, search (rules, tests))))
    (λ r l w. w)
    (λ r n w. n w)
    (λ r w. omega (arith, w.evolves.below, c.count.ensures))
