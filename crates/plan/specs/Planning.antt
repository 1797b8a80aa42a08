-- The run to a couple and the plan (document 01, "Refusals by number"): their checks in order, and what they leave.
-- Assumes nothing: these are definitions.
use Rattle.std.specs.Prelude.{◌≡◌, List, [], ◌∷◌, ◌++◌, ℕ, ◌+◌, ◌<◌, length}
use Rattle.verdict.specs.Checks.{Check, check, Unless, Short, Judged}
use Rattle.verdict.specs.Buffers.{Left, Written}
use Rattle.verdict.specs.declared.Answer.{Answer}
use Rattle.machine.specs.Limits.{unmarked}
use Rattle.machine.specs.Runs.{Machine, couples, Marked, Rank, RankOrUnmarked}
use Rattle.machine.specs.Shortest.{RunTo}
use Rattle.machine.specs.Plans.{Plan, stored}
use Rattle.marking.specs.Marking.{mark_checks}

-- refusal 16 of a run: bytes needed, rank + 1
abbrev pub ShortRun : Machine → ℕ → ℕ → ℕ → Type 0
ShortRun m c room p = (r : ℕ) × Rank m c r × Short (r + 1) room p

-- the checks of the run to couple c: as marking, then 14, 15, 16
abbrev pub run_checks : Machine → ℕ → ℕ → ℕ → List Check
run_checks m c ranks run =
    mark_checks m ranks
    ++ check 14 (Unless (c < couples m))
    ∷ check 15 (Unless (Marked m c))
    ∷ check 16 (ShortRun m c run)
    ∷ []

-- success: the settings written, rank + 1
pub record RunDone (m : Machine) (c : ℕ) (a : Answer) : Type 0 where
  pub number : a.number ≡ 0
  pub rank : ℕ
  pub ranked : Rank m c rank
  pub place : a.place ≡ rank + 1

-- the promise of the run to a couple: the verdict, the ranks, and the run
pub record RunAs (m : Machine) (c : ℕ) (ranks₀ run₀ : List ℕ) (a : Answer) (ranks₁ run₁ : List ℕ) : Type 0 where
  pub verdict : Judged (run_checks m c (length ranks₀) (length run₀)) (RunDone m c) a
  pub ranks : Left a.number (couples m) unmarked (RankOrUnmarked m) ranks₀ ranks₁
  pub run : Written a.number (RunTo m c) run₀ run₁

-- w is the stored plan of the machine
abbrev pub PlanBytes : Machine → List ℕ → Type 0
PlanBytes m w = (plan : List (List ℕ)) × Plan m (couples m) plan × (w ≡ stored plan)

-- refusal 16 of what is written whole or not at all: bytes needed for the whole
abbrev pub ShortOf : (List ℕ → Type 0) → ℕ → ℕ → Type 0
ShortOf Is room p = (w : List ℕ) × Is w × Short (length w) room p

-- its success: the bytes written
pub record WholeDone (Is : List ℕ → Type 0) (a : Answer) : Type 0 where
  pub number : a.number ≡ 0
  pub bytes : List ℕ
  pub is : Is bytes
  pub place : a.place ≡ length bytes

-- the checks of the plan: as marking, then 16
abbrev pub plan_checks : Machine → ℕ → ℕ → List Check
plan_checks m ranks plan = mark_checks m ranks ++ check 16 (ShortOf (PlanBytes m) plan) ∷ []

-- the promise of the plan: the verdict, the ranks, and the plan's bytes
pub record PlannedAs (m : Machine) (ranks₀ plan₀ : List ℕ) (a : Answer) (ranks₁ plan₁ : List ℕ) : Type 0 where
  pub verdict : Judged (plan_checks m (length ranks₀) (length plan₀)) (WholeDone (PlanBytes m)) a
  pub ranks : Left a.number (couples m) unmarked (RankOrUnmarked m) ranks₀ ranks₁
  pub plan : Written a.number (PlanBytes m) plan₀ plan₁
