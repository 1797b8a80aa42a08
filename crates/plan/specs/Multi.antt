-- The run to a couple where several inputs may change at once, and the list of such runs apart from the plan (document 02, ticket 6): their
-- checks in order, and what they leave. Assumes nothing: these are definitions.
use Rattle.std.specs.Prelude.{◌≡◌, List, [], ◌∷◌, ◌++◌, ℕ, ◌<◌, length}
use Rattle.verdict.specs.Checks.{Check, check, Unless, Judged}
use Rattle.verdict.specs.Buffers.{Left, Written}
use Rattle.verdict.specs.declared.Answer.{Answer}
use Rattle.machine.specs.Limits.{unmarked}
use Rattle.machine.specs.Runs.{Machine, couples, Marked, RankOrUnmarked}
use Rattle.machine.specs.Plans.{Plan}
use Rattle.several.specs.Several.{singly, MultiRunTo}
use Rattle.several.specs.Lists.{MultiList, stored_list}
use Rattle.marking.specs.Marking.{mark_checks}
use Rattle.plan.specs.Planning.{ShortOf, WholeDone}

-- the checks of the run to couple c: as marking, then 14, 20 in place of 15, 16
abbrev pub multi_checks : Machine → ℕ → ℕ → ℕ → List Check
multi_checks m c ranks run =
    mark_checks m ranks
    ++ check 14 (Unless (c < couples m))
    ∷ check 20 (Unless (Marked m c))
    ∷ check 16 (ShortOf (MultiRunTo m c) run)
    ∷ []

-- the promise of the run to a couple: the verdict, the ranks of single changes, and the run
pub record MultiAs (m : Machine) (c : ℕ) (ranks₀ run₀ : List ℕ) (a : Answer) (ranks₁ run₁ : List ℕ) : Type 0 where
  pub verdict : Judged (multi_checks m c (length ranks₀) (length run₀)) (WholeDone (MultiRunTo m c)) a
  pub ranks : Left a.number (couples m) unmarked (RankOrUnmarked (singly m)) ranks₀ ranks₁
  pub run : Written a.number (MultiRunTo m c) run₀ run₁

-- w is the stored list beside the plan of the machine
abbrev pub ListBytes : Machine → List ℕ → Type 0
ListBytes m w = (plan : List (List ℕ)) × (list : List (List ℕ)) × Plan (singly m) (couples m) plan × MultiList m plan (couples m) list × (w ≡ stored_list m list)

-- the checks of the list: as marking, then 16
abbrev pub list_checks : Machine → ℕ → ℕ → List Check
list_checks m ranks list = mark_checks m ranks ++ check 16 (ShortOf (ListBytes m) list) ∷ []

-- the promise of the list: the verdict, the ranks of single changes, and the list's bytes
pub record ListedAs (m : Machine) (ranks₀ list₀ : List ℕ) (a : Answer) (ranks₁ list₁ : List ℕ) : Type 0 where
  pub verdict : Judged (list_checks m (length ranks₀) (length list₀)) (WholeDone (ListBytes m)) a
  pub ranks : Left a.number (couples m) unmarked (RankOrUnmarked (singly m)) ranks₀ ranks₁
  pub list : Written a.number (ListBytes m) list₀ list₁
