-- The shortened plan (document 02, ticket 3): the pass over the runs, the checks in their order, and what is left. Assumes nothing: these
-- are definitions.
use Rattle.std.specs.Prelude.{◌≡◌, List, [], ◌∷◌, ◌++◌, ℕ, length}
use Rattle.verdict.specs.Checks.{Check, check, Judged}
use Rattle.verdict.specs.Buffers.{Written}
use Rattle.verdict.specs.declared.Answer.{Answer}
use Rattle.machine.specs.Lists.{In}
use Rattle.machine.specs.Runs.{Machine, visits}
use Rattle.machine.specs.Plans.{VisitedBy, stored}
use Rattle.tables.specs.Tables.{table_checks}
use Rattle.runs.specs.Stored.{Broken}

-- each couple that the run visits is visited by some run of the others
pub record Superfluous (m : Machine) (vs : List ℕ) (others : List (List ℕ)) : Type 0 where
  pub elsewhere : (c : ℕ) → In c (visits m vs) → VisitedBy m c others

-- Going through runs from first to last, `kept` being the earlier ones still in: a run is taken out if it is superfluous among the others
-- still in, those kept and all later ones; otherwise it stays. The last list holds those that stay.
pub data Shortens (m : Machine) : List (List ℕ) → List (List ℕ) → List (List ℕ) → Type 0 where
  ends : {kept : List (List ℕ)} → Shortens m kept [] []
  out : {kept later left : List (List ℕ)} {vs : List ℕ} → Superfluous m vs (kept ++ later) → Shortens m kept later left → Shortens m kept (vs ∷ later) left
  stays : {kept later left : List (List ℕ)} {vs : List ℕ} → (Superfluous m vs (kept ++ later) → ⊥) → Shortens m (kept ++ (vs ∷ [])) later left → Shortens m kept (vs ∷ later) (vs ∷ left)

-- no single run of the list is superfluous among the others
abbrev pub NoneSuperfluous : Machine → List (List ℕ) → Type 0
NoneSuperfluous m runs = (before after : List (List ℕ)) (vs : List ℕ) → runs ≡ before ++ (vs ∷ after) → Superfluous m vs (before ++ after) → ⊥

-- w is the stored plan `bytes`, shortened: these split into runs, and w stores those that stay
pub record Shortened (m : Machine) (bytes w : List ℕ) : Type 0 where
  pub runs : List (List ℕ)
  pub left : List (List ℕ)
  pub splits : bytes ≡ stored runs
  pub shortens : Shortens m [] runs left
  pub stores : w ≡ stored left

-- the checks of shortening: 2, 3, 4, 10, 19
abbrev pub shorten_checks : Machine → List ℕ → List Check
shorten_checks m bytes = table_checks m ++ check 19 (Broken m bytes) ∷ []

-- success: the new length
pub record ShortenDone (m : Machine) (bytes : List ℕ) (a : Answer) : Type 0 where
  pub number : a.number ≡ 0
  pub kept : List ℕ
  pub shortened : Shortened m bytes kept
  pub place : a.place ≡ length kept

-- the promise of shortening: the verdict, and the plan
pub record ShortenedAs (m : Machine) (plan₀ : List ℕ) (a : Answer) (plan₁ : List ℕ) : Type 0 where
  pub verdict : Judged (shorten_checks m plan₀) (ShortenDone m plan₀) a
  pub plan : Written a.number (Shortened m plan₀) plan₀ plan₁
