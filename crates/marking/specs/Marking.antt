-- Marking (document 01, "Refusals by number"): its checks in their order, and what it leaves. Assumes nothing: these are definitions.
use Rattle.std.specs.Prelude.{List, ◌∷◌, ◌++◌, ℕ, length}
use Rattle.verdict.specs.Checks.{Check, check, Short, Passed, Judged}
use Rattle.verdict.specs.Buffers.{Left}
use Rattle.verdict.specs.declared.Answer.{Answer}
use Rattle.machine.specs.Limits.{unmarked}
use Rattle.machine.specs.Runs.{Machine, couples, RankOrUnmarked}
use Rattle.tables.specs.Tables.{size_checks, move_checks, start_checks}
use Rattle.several.specs.Several.{singly}
use Rattle.several.specs.Weights.{unweighed, WeightOrNone, ParentOrNone}

-- the checks of marking, with room for so many ranks: 2, 3 of the table, 3 of the ranks, 4, 10, 13
abbrev pub mark_checks : Machine → ℕ → List Check
mark_checks m ranks = size_checks m ++ check 3 (Short (couples m) ranks) ∷ move_checks m ++ start_checks m

-- the promise of marking: the verdict, and the ranks
pub record MarkedAs (m : Machine) (ranks₀ : List ℕ) (a : Answer) (ranks₁ : List ℕ) : Type 0 where
  pub verdict : Judged (mark_checks m (length ranks₀)) Passed a
  pub ranks : Left a.number (couples m) unmarked (RankOrUnmarked m) ranks₀ ranks₁

-- the same with room for so many weights and parents, asked after the ranks: 2, 3, 3, 3, 3, 4, 10, 13
abbrev pub parent_checks : Machine → ℕ → ℕ → ℕ → List Check
parent_checks m ranks weights parents =
    size_checks m
    ++ check 3 (Short (couples m) ranks)
    ∷ check 3 (Short (couples m) weights)
    ∷ check 3 (Short (couples m) parents)
    ∷ move_checks m
    ++ start_checks m

-- the promise of marking with parents: the verdict, the ranks of single changes, and the weight and parent of each couple
pub record ParentedAs (m : Machine) (ranks₀ weights₀ parents₀ : List ℕ) (a : Answer) (ranks₁ weights₁ parents₁ : List ℕ) : Type 0 where
  pub verdict : Judged (parent_checks m (length ranks₀) (length weights₀) (length parents₀)) Passed a
  pub ranks : Left a.number (couples m) unmarked (RankOrUnmarked (singly m)) ranks₀ ranks₁
  pub weights : Left a.number (couples m) unweighed (WeightOrNone m) weights₀ weights₁
  pub parents : Left a.number (couples m) 0 (ParentOrNone m) parents₀ parents₁
