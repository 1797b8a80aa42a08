-- The weight of the run to a couple, both counts in one number, and the couple before it on that run: what marking hands to the writers of
-- runs. Assumes nothing: these are definitions.
use Rattle.std.specs.Prelude.{◌≡◌, ◌⊎◌, List, [], ◌∷◌, ℕ, suc, ◌+◌, ◌*◌, length}
use Rattle.machine.specs.Runs.{Machine, Marked}
use Rattle.machine.specs.Shortest.{rests}
use Rattle.several.specs.Several.{multiples, MultiRunTo}

-- a change weighs 1, and a multiple change so much more
abbrev pub extra : ℕ
extra = 65536

-- what stands in place of a weight for a couple that no run visits
abbrev pub unweighed : ℕ
unweighed = 4294967295

-- what a list of weights holds for couple c: the weight of the run to it; a run of L settings has L - 1 changes
abbrev pub WeightOrNone : Machine → ℕ → ℕ → Type 0
WeightOrNone m c x = ((vs : List ℕ) × MultiRunTo m c vs × (suc x ≡ multiples m vs * extra + length vs)) ⊎ ((x ≡ unweighed) × (Marked m c → ⊥))

abbrev pub first_of : List ℕ → ℕ
first_of [] = 0
first_of (c ∷ cs) = c

-- what a list of parents holds for couple c: the resting couple before the last change of the run to it, 0 where there is none
pub record ParentOrNone (m : Machine) (c p : ℕ) : Type 0 where
  pub parent : (vs : List ℕ) → MultiRunTo m c vs → p ≡ first_of (rests m vs)
  pub none : (Marked m c → ⊥) → p ≡ 0
