-- The plan and its stored form (document 01, "Runs and ranks"). Assumes nothing: these are definitions.
use Rattle.std.specs.Prelude.{◌↔◌, List, [], ◌∷◌, ◌++◌, ℕ, zero, suc, ◌+◌, ◌*◌, ◌/◌, ◌%◌, length, take, drop}
use Rattle.machine.specs.Lists.{In}
use Rattle.machine.specs.Runs.{Machine, Run, Fault, visits, Marked, RanksOf}
use Rattle.machine.specs.Shortest.{RunTo}

-- some run of the list visits c
abbrev pub VisitedBy : Machine → ℕ → List (List ℕ) → Type 0
VisitedBy m c plan = (vs : List ℕ) × In vs plan × In c (visits m vs)

-- the plan over the first t couples, in rising number: for each marked one that no earlier run of the plan visits, the run to it
pub data Plan (m : Machine) : ℕ → List (List ℕ) → Type 0 where
  empty : Plan m 0 []
  pass : {c : ℕ} {plan : List (List ℕ)} → Plan m c plan → (Marked m c → VisitedBy m c plan) → Plan m (suc c) plan
  add : {c : ℕ} {plan : List (List ℕ)} {vs : List ℕ} → Plan m c plan → (VisitedBy m c plan → ⊥) → RunTo m c vs → Plan m (suc c) (plan ++ (vs ∷ []))

-- stored form: the number of settings in two bytes, low byte first, then one byte a setting; runs end to end
abbrev pub stored_run : List ℕ → List ℕ
stored_run vs = length vs % 256 ∷ length vs / 256 ∷ vs

abbrev pub stored : List (List ℕ) → List ℕ
stored [] = []
stored (vs ∷ plan) = stored_run vs ++ stored plan

-- the runs that bytes hold, k at most
abbrev pub split : ℕ → List ℕ → List (List ℕ)
split zero bs = []
split (suc k) [] = []
split (suc k) (low ∷ []) = []
split (suc k) (low ∷ high ∷ bs) = take (high * 256 + low) bs ∷ split k (drop (high * 256 + low) bs)

abbrev pub runs_in : List ℕ → List (List ℕ)
runs_in bs = split (length bs) bs

-- two machines have the same runs, faults, ranks, runs to a couple and plans
pub record SameRuns (m w : Machine) : Type 0 where
  pub runs : (vs : List ℕ) → Run m vs ↔ Run w vs
  pub faults : (vs : List ℕ) (i : ℕ) → Fault m vs i ↔ Fault w vs i
  pub ranks : (rs : List ℕ) → RanksOf m rs ↔ RanksOf w rs
  pub runs_to : (c : ℕ) (vs : List ℕ) → RunTo m c vs ↔ RunTo w c vs
  pub plans : (t : ℕ) (plan : List (List ℕ)) → Plan m t plan ↔ Plan w t plan
