-- The order of checks (document 01, "Refusals by number"). Assumes nothing: these are definitions.
use Rattle.std.specs.Prelude.{◌≡◌, Bool, true, false, List, [], ◌∷◌, ◌⊎◌, ℕ, ◌<◌, Option, Some, None}
use Rattle.verdict.specs.declared.Answer.{Answer}
use Rattle.verdict.specs.declared.Room.{Room}

-- a test answers whether P holds
pub record Decides (P : Type 0) (answer : Bool) : Type 0 where
  pub holds : answer ≡ true → P
  pub fails : answer ≡ false → P → ⊥

-- nowhere
pub record Nowhere (fails : ℕ → Type 0) : Type 0 where
  pub nowhere : (p : ℕ) → fails p → ⊥

-- at this place, and at no smaller one
pub record Least (fails : ℕ → Type 0) (place : ℕ) : Type 0 where
  pub here : fails place
  pub first : (p : ℕ) → p < place → fails p → ⊥

-- what a search for the least place answers
abbrev pub Finds : (ℕ → Type 0) → Option ℕ → Type 0
Finds fails (Some place) = Least fails place
Finds fails None = Nowhere fails

-- one row of the table of refusals: its number, and the places at which it fails
pub record Check : Type 1 where
  pub number : ℕ
  pub fails : ℕ → Type 0

abbrev pub check : ℕ → (ℕ → Type 0) → Check
check n f = record { number = n; fails = f }

-- a check of the whole input has place 0
abbrev pub Unless : Type 0 → ℕ → Type 0
Unless P p = (p ≡ 0) × (P → ⊥)

-- a buffer too short has the needed elements as its place
abbrev pub Short : ℕ → ℕ → ℕ → Type 0
Short needed has p = (p ≡ needed) × (has < needed)

-- refusal 3 of three buffers, in their order
abbrev pub room_checks : Room → Room → Room → List Check
room_checks first second third =
    check 3 (Short first.needed first.has)
    ∷ check 3 (Short second.needed second.has)
    ∷ check 3 (Short third.needed third.has)
    ∷ []

-- a fault of what is fit; what is not fit has none
pub record Within (G : Type 0) (F : ℕ → Type 0) (p : ℕ) : Type 0 where
  pub fit : G
  pub fault : F p

-- past the refusals 1 to k: success, or a later one
abbrev pub Past : ℕ → ℕ → Type 0
Past k number = (number ≡ 0) ⊎ (k < number)

-- success with place 0
pub record Passed (a : Answer) : Type 0 where
  pub number : a.number ≡ 0
  pub place : a.place ≡ 0

-- a check: it refuses the input at its least place, or fails nowhere and the rest decides
pub data Then (fails : ℕ → Type 0) (number : ℕ) (rest : Type 0) (a : Answer) : Type 0 where
  refused : Least fails a.place → a.number ≡ number → Then fails number rest a
  next : Nowhere fails → rest → Then fails number rest a

-- the checks in their order; where none fails, `done` says what is answered
abbrev pub Verdict : List Check → (Answer → Type 0) → Answer → Type 0
Verdict [] done a = done a
Verdict (c ∷ cs) done a = Then c.fails c.number (Verdict cs done a) a

-- the answer of a job: the verdict of its checks
pub record Judged (cs : List Check) (done : Answer → Type 0) (a : Answer) : Type 0 where
  pub verdict : Verdict cs done a

-- some check of the list fails somewhere
abbrev pub Fails : List Check → Type 0
Fails [] = ⊥
Fails (c ∷ cs) = ((p : ℕ) × c.fails p) ⊎ Fails cs

-- the first check of the list that fails has the number of a, and the place of a is the least at which it fails
abbrev pub FirstFails : List Check → Answer → Type 0
FirstFails [] a = ⊥
FirstFails (c ∷ cs) a = ((c.number ≡ a.number) × Least c.fails a.place) ⊎ (Nowhere c.fails × FirstFails cs a)
