-- `twice` looks for the source and target among the earlier evolutions.
use Rattle.std.proofs.Common.{◌≡◌, refl, arith, rules, tests}
use Rattle.std.proofs.lemmas.Iterator.{cases_from_any, YieldsList-from_range}
use Rattle.specification.specs.Records.{source, target}
use Rattle.verdict.proofs.Found.{any_in}
use Rattle.specification.proofs.records.Records.twice.Goals as goal

pub returns : goal.returns
returns c =
    let f = c.args.self.file.now in
    let z = c.args.self.z in
    let r = c.args.r in
    any_in {Yes = λ q. (source f z q ≡ source f z r) × (target f z q ≡ target f z r)} {No = λ q. (source f z q ≡ source f z r) × (target f z q ≡ target f z r) → ⊥} c.any.result
    (cases_from_any _ _ _ (λ q. (source f z q ≡ source f z r) × (target f z q ≡ target f z r)) (λ q. (source f z q ≡ source f z r) × (target f z q ≡ target f z r) → ⊥) c.any.ensures.ran (YieldsList-from_range z.states _ _ refl refl)
    (λ q k h. search (rules, tests))
    (λ q k h. (search rules, search (rules, tests))))
    (λ q l h e. record { evolves = record { after = omega arith; below = omega arith }; earlier = q; before = h; evolved = record { after = l; below = omega arith }; from = e.0; to = e.1 })
    (λ none w. none w.earlier w.evolved.after w.before (w.from, w.to))
