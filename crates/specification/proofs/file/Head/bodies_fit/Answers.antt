-- `bodies_fit` asks each entry behind kind 4 for its length.
use Rattle.std.proofs.Common.{◌≤◌, ◌<◌, refl, arith, rules, tests}
use Rattle.std.proofs.lemmas.Iterator.{cases_from_all, YieldsList-from_range}
use Rattle.specification.specs.File.{length_of}
use Rattle.specification.specs.Limits.{most_text}
use Rattle.verdict.proofs.Found.{all_in}
use Rattle.specification.proofs.file.Head.bodies_fit.Goals as goal

pub returns : goal.returns
returns c =
    let a = c.args in
    all_in {Yes = λ k. length_of a.self.file.now k ≤ most_text} {No = λ k. most_text < length_of a.self.file.now k} c.all.result
    (cases_from_all _ _ _ (λ k. length_of a.self.file.now k ≤ most_text) (λ k. most_text < length_of a.self.file.now k) c.all.ensures.ran (YieldsList-from_range 4 _ _ refl refl)
    (λ k q h. (search rules, search (rules, tests)))
    (λ k q h. search (rules, tests)))
    (λ each k l h. each k l (omega (arith, c.count.ensures)))
    (λ k l h n p. omega (arith, p k l (omega (arith, c.count.ensures))))
