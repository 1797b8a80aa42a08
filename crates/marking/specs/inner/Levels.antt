-- Marking in the order of weights: what the lists of weights and parents hold after all weights up to k, and what one round adds to them.
use Rattle.std.specs.Prelude.{◌≡◌, ◌⊎◌, List, [], ℕ, suc, ◌+◌, ◌≤◌, ◌<◌, get_or}
use Rattle.machine.specs.Runs.{Machine, couples}
use Rattle.machine.specs.inner.Trails.{Steps, Trail}
use Rattle.several.specs.Weights.{extra, unweighed}
use Rattle.several.specs.inner.Lightest.{step, Lightest, Parent}

module _ (m : Machine) where
  -- one change from couple p visits couple c, and brings it to weight k
  pub record Source (R : List ℕ) (k c p : ℕ) : Type 0 where
    pub below : p < couples m
    pub steps : Steps m p c
    pub sum : get_or R p 0 + step m extra p c ≡ k

  -- The round of weight k turns weights R and parents P into R' and P' at couple c: what has a weight keeps it; a couple without one
  -- that some change brings to weight k gets that weight, and the least couple before such a change as parent; others stay without.
  pub data Turned (k : ℕ) (R P R' P' : List ℕ) (c : ℕ) : Type 0 where
    kept : (get_or R c 0 ≡ unweighed → ⊥) → get_or R' c 0 ≡ get_or R c 0 → get_or P' c 0 ≡ get_or P c 0 → Turned k R P R' P' c
    found : get_or R c 0 ≡ unweighed → Source R k c (get_or P' c 0) → ((q : ℕ) → Source R k c q → get_or P' c 0 ≤ q) → get_or R' c 0 ≡ k → Turned k R P R' P' c
    left : get_or R c 0 ≡ unweighed → ((p : ℕ) → Source R k c p → ⊥) → get_or R' c 0 ≡ unweighed → Turned k R P R' P' c

  abbrev pub Round : ℕ → List ℕ → List ℕ → List ℕ → List ℕ → Type 0
  Round k R P R' P' = (c : ℕ) → c < couples m → Turned k R P R' P' c

  -- each weight up to k, with its parent, and none for each couple whose lightest trails are heavier
  pub data Leveled (k : ℕ) (R P : List ℕ) (c : ℕ) : Type 0 where
    within : Lightest m extra c (get_or R c 0) → get_or R c 0 ≤ k → ((j : ℕ) → get_or R c 0 ≡ suc j → Parent m extra (suc j) c (get_or P c 0)) → Leveled k R P c
    beyond : get_or R c 0 ≡ unweighed → ((r : ℕ) → Lightest m extra c r → k < r) → Leveled k R P c

  abbrev pub Level : ℕ → List ℕ → List ℕ → Type 0
  Level k R P = (c : ℕ) → c < couples m → Leveled k R P c

  -- before the first round: 0 for each start's couple, none for each other
  abbrev pub Started : List ℕ → Type 0
  Started R = (c : ℕ) → c < couples m → (Trail m c [] × (get_or R c 0 ≡ 0)) ⊎ ((Trail m c [] → ⊥) × (get_or R c 0 ≡ unweighed))

  -- no change from a couple with a weight brings one without to less than k
  abbrev pub NoneBelow : ℕ → List ℕ → Type 0
  NoneBelow k R = (p c : ℕ) → p < couples m → c < couples m → (get_or R p 0 ≡ unweighed → ⊥) → Steps m p c → get_or R c 0 ≡ unweighed → k ≤ get_or R p 0 + step m extra p c

  -- After all weights up to k: the first tail elements of the queue are the couples with a weight, the lighter first. Those before
  -- place a have had their single changes, those before place b their multiple ones.
  pub record Heads (k : ℕ) (R Q : List ℕ) (a b tail : ℕ) : Type 0 where
    pub low : (i : ℕ) → i < tail → get_or Q i 0 < couples m
    pub all : (c : ℕ) → c < couples m → (get_or R c 0 ≡ unweighed → ⊥) → (i : ℕ) × (i < tail) × (get_or Q i 0 ≡ c)
    pub marked : (i : ℕ) → i < tail → get_or R (get_or Q i 0) 0 ≡ unweighed → ⊥
    pub sorted : (i j : ℕ) → i ≤ j → j < tail → get_or R (get_or Q i 0) 0 ≤ get_or R (get_or Q j 0) 0
    pub single_had : (i : ℕ) → i < a → i < tail → get_or R (get_or Q i 0) 0 < k
    pub single_left : (i : ℕ) → a ≤ i → i < tail → k ≤ get_or R (get_or Q i 0) 0
    pub multiple_had : (i : ℕ) → i < b → i < tail → get_or R (get_or Q i 0) 0 + extra < k
    pub multiple_left : (i : ℕ) → b ≤ i → i < tail → k ≤ get_or R (get_or Q i 0) 0 + extra
