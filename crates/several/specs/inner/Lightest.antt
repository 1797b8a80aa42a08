-- Weights: a change weighs 1, a multiple change W more. With W no less than the number of couples, the lightest trails to a couple are
-- those with the fewest multiple changes, and among those the fewest changes.
use Rattle.std.specs.Prelude.{◌≡◌, ◌⊎◌, List, [], ◌∷◌, ℕ, suc, ◌+◌, ◌*◌, ◌%◌, ◌≤◌, ◌<◌, get_or}
use Rattle.machine.specs.Runs.{Machine, size, couples, Marked}
use Rattle.machine.specs.inner.Trails.{Steps, Trail}
use Rattle.several.specs.Several.{multiple}

-- the multiple changes of a trail to couple c
abbrev pub multiples_along : Machine → ℕ → List ℕ → ℕ
multiples_along m c [] = 0
multiples_along m c (p ∷ ps) = multiple m (p % size m) (c % size m) + multiples_along m p ps

module _ (m : Machine) (W : ℕ) where
  -- what the change from couple p to couple c weighs
  abbrev pub step : ℕ → ℕ → ℕ
  step p c = suc (multiple m (p % size m) (c % size m) * W)

  -- what a trail to couple c weighs
  abbrev pub weight : ℕ → List ℕ → ℕ
  weight c [] = 0
  weight c (p ∷ ps) = weight p ps + step p c

  -- the lightest trails to couple c weigh k
  pub record Lightest (c k : ℕ) : Type 0 where
    pub path : List ℕ
    pub trail : Trail m c path
    pub weighs : weight c path ≡ k
    pub fewest : (ps : List ℕ) → Trail m c ps → k ≤ weight c ps

  -- couple p stands before couple c on one of its lightest trails, of weight k
  pub record Before (k c p : ℕ) : Type 0 where
    pub steps : Steps m p c
    pub earlier : ℕ
    pub sum : earlier + step p c ≡ k
    pub lightest : Lightest p earlier

  -- the least such couple
  pub record Parent (k c p : ℕ) : Type 0 where
    pub before : Before k c p
    pub least : (q : ℕ) → Before k c q → p ≤ q

  -- all weights, none where no run visits a couple, and all parents
  pub record Complete (none : ℕ) (R P : List ℕ) : Type 0 where
    pub weight : (c : ℕ) → c < couples m → (Lightest c (get_or R c 0) × (get_or R c 0 < none)) ⊎ ((get_or R c 0 ≡ none) × (Marked m c → ⊥))
    pub parent : (j c : ℕ) → Lightest c (suc j) → Parent (suc j) c (get_or P c 0)
