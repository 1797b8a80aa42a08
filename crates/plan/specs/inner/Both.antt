-- What both public functions over one private one promise, where several inputs may change at once, or not.
use Rattle.std.specs.Prelude.{Bool, true, false, List, ℕ}
use Rattle.verdict.specs.declared.Answer.{Answer}
use Rattle.machine.specs.Runs.{machine_by}
use Rattle.machine.specs.declared.Frame.{Frame}
use Rattle.plan.specs.Planning.{RunAs, PlannedAs}
use Rattle.plan.specs.Multi.{MultiAs, ListedAs}

-- the run to a couple
abbrev pub RunBy : Bool → Frame → List ℕ → ℕ → List ℕ → List ℕ → Answer → List ℕ → List ℕ → Type 0
RunBy true f table = MultiAs (machine_by true f table)
RunBy false f table = RunAs (machine_by false f table)

-- the list, or the plan
abbrev pub PlanBy : Bool → Frame → List ℕ → List ℕ → List ℕ → Answer → List ℕ → List ℕ → Type 0
PlanBy true f table = ListedAs (machine_by true f table)
PlanBy false f table = PlannedAs (machine_by false f table)
