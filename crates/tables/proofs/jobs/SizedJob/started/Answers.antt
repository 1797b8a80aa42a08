-- `started` looks for a start among the settings: only settings are starts.
use Rattle.std.proofs.Common.{refl, arith, rules, tests}
use Rattle.std.proofs.lemmas.Iterator.{cases_from_any, YieldsList-from_range}
use Rattle.machine.specs.Runs.{Starts}
use Rattle.tables.specs.Tables.{machine_in}
use Rattle.verdict.proofs.Found.{any_in}
use Rattle.tables.proofs.jobs.SizedJob.started.Goals as goal

pub returns : goal.returns
returns c =
    let m = machine_in c.args.self.job in
    any_in {Yes = Starts m} {No = λ v. Starts m v → ⊥} c.any.result
    (cases_from_any _ _ _ (Starts m) (λ v. Starts m v → ⊥) c.any.ensures.ran (YieldsList-from_range 0 _ _ refl refl)
    (λ v k h. search (rules, tests))
    (λ v k h. (search rules, search (rules, tests))))
    (λ v l h e. (v, e))
    (λ none x. none x.0 (omega arith) (omega (arith, x.1.below, c.settings.ensures)) x.1)
