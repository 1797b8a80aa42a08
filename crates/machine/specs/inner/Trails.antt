-- Runs by their resting couples, from the last change back to the start.
use Rattle.std.specs.Prelude.{◌≡◌, ◌⊎◌, List, [], ◌∷◌, ℕ, ◌≤◌, ◌<◌}
use Rattle.machine.specs.Runs.{Machine, size, couple, move, Starts, Changes, Rank}

-- one change from the resting couple p visits couple c
pub record Steps (m : Machine) (p c : ℕ) : Type 0 where
  pub state : ℕ
  pub from : ℕ
  pub to : ℕ
  pub below : from < size m
  pub here : p ≡ couple m state from
  pub rests : move m state from ≡ state
  pub change : Changes m from to
  pub visits : (c ≡ couple m state to) ⊎ (c ≡ couple m (move m state to) to)

-- the parent of couple c: the least resting couple of rank r from which one change visits it
pub record Parent (m : Machine) (r c p : ℕ) : Type 0 where
  pub steps : Steps m p c
  pub rank : Rank m p r
  pub least : (q : ℕ) → Steps m q c → Rank m q r → p ≤ q

-- couple c is visited at the last step of a run whose resting couples before each change are the list, the last first
abbrev pub Trail : Machine → ℕ → List ℕ → Type 0
Trail m c [] = (v : ℕ) × Starts m v × (c ≡ couple m m.initial v)
Trail m c (p ∷ ps) = Trail m p ps × Steps m p c
