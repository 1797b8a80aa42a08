-- `of_kind` searches the entries for their kinds.
use Rattle.std.proofs.Common.{◌≡◌, arith, rules, tests}
use Rattle.std.proofs.lemmas.Iterator.{first_from_Range}
use Rattle.specification.specs.File.{kind_of}
use Rattle.verdict.proofs.Found.{found}
use Rattle.specification.proofs.file.Head.of_kind.Goals as goal

pub returns : goal.returns
returns c =
    let a = c.args in
    found c.find.result
    (first_from_Range _ _ _ _ (λ k. kind_of a.self.file.now k ≡ a.kind) (λ k. kind_of a.self.file.now k ≡ a.kind → ⊥) c.find.ensures.ran
    (λ k q h. search (rules, tests))
    (λ k q h. (search rules, search (rules, tests))))
    (λ k l e. record { there = omega (arith, c.count.ensures); is = e })
    (λ k n o. n o.is)
    (λ k o. omega (arith, o.there, c.count.ensures))
