-- What the private functions of marking ask of one another: the checks in parts, and the buffers between them.
use Rattle.std.specs.Prelude.{◌≡◌, cond, List, [], ◌∷◌, ◌++◌, ℕ, ◌<◌, length, get_or, ltb}
use Rattle.verdict.specs.Checks.{check, Short, Passed, Judged}
use Rattle.verdict.specs.Buffers.{Left}
use Rattle.verdict.specs.declared.Answer.{Answer}
use Rattle.machine.specs.Limits.{unmarked}
use Rattle.machine.specs.Runs.{Machine, couples, RankOrUnmarked}
use Rattle.tables.specs.Tables.{size_checks, move_checks, start_checks, Checked}
use Rattle.several.specs.Several.{singly}
use Rattle.several.specs.Weights.{extra, unweighed, WeightOrNone, ParentOrNone}

-- the verdict of marking with parents up to refusal 3
pub record SizedAs (m : Machine) (ranks weights parents : ℕ) (a : Answer) : Type 0 where
  pub verdict : Judged (size_checks m ++ check 3 (Short (couples m) ranks) ∷ check 3 (Short (couples m) weights) ∷ check 3 (Short (couples m) parents) ∷ []) Passed a

-- room for the weights and parents of the couples exactly
pub record Exact (m : Machine) (W P : List ℕ) : Type 0 where
  pub weights_are : length W ≡ couples m
  pub parents_are : length P ≡ couples m

-- blank buffers
pub record Blank (m : Machine) (W P : List ℕ) : Type 0 where
  pub exact : Exact m W P
  pub weights_blank : (c : ℕ) → c < couples m → get_or W c 0 ≡ unweighed
  pub parents_blank : (c : ℕ) → c < couples m → get_or P c 0 ≡ 0

-- the weight and parent of each couple
pub record Weighed (m : Machine) (W P : List ℕ) : Type 0 where
  pub exact : Exact m W P
  pub weight : (c : ℕ) → c < couples m → WeightOrNone m c (get_or W c 0)
  pub parent : (c : ℕ) → c < couples m → ParentOrNone m c (get_or P c 0)

-- the verdict of marking from refusal 4 on, and in blank buffers the weights and parents; blank after a refusal
pub record WeighedAs (m : Machine) (a : Answer) (W P : List ℕ) : Type 0 where
  pub verdict : Judged (move_checks m ++ start_checks m) Passed a
  pub done : a.number ≡ 0 → Weighed m W P × Checked m
  pub refused : (a.number ≡ 0 → ⊥) → Blank m W P

-- the rank that a weight tells
abbrev pub rank_of : ℕ → ℕ
rank_of w = cond (ltb w extra) w unmarked

-- the promise of marking with parents from refusal 4 on
pub record ExactAs (m : Machine) (R W P : List ℕ) (a : Answer) (R' W' P' : List ℕ) : Type 0 where
  pub verdict : Judged (move_checks m ++ start_checks m) Passed a
  pub ranks : Left a.number (couples m) unmarked (RankOrUnmarked (singly m)) R R'
  pub weights : Left a.number (couples m) unweighed (WeightOrNone m) W W'
  pub parents : Left a.number (couples m) 0 (ParentOrNone m) P P'
