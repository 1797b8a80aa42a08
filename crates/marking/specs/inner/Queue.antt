-- The queue of marking in the order of weights: what an offer of a weight does to the lists of weights and parents and to the queue, and what
-- the offers from several couples do.
use Rattle.std.specs.Prelude.{◌≡◌, List, ℕ, ◌+◌, ◌≤◌, ◌<◌, length, get_or}
use Rattle.machine.specs.Limits.{most_couples}
use Rattle.machine.specs.Runs.{Machine}
use Rattle.machine.specs.inner.Trails.{Steps}
use Rattle.several.specs.Weights.{extra, unweighed}
use Rattle.several.specs.inner.Lightest.{step}

-- from place a on, the queue holds exactly the couples of weight r
pub record Fresh (r a : ℕ) (R Q : List ℕ) (tail : ℕ) : Type 0 where
  pub from : a ≤ tail
  pub new : (i : ℕ) → a ≤ i → i < tail → get_or R (get_or Q i 0) 0 ≡ r
  pub all : (c : ℕ) → c < length R → get_or R c 0 ≡ r → (i : ℕ) × (a ≤ i) × (i < tail) × (get_or Q i 0 ≡ c)

-- q stands in the queue from place a on and before place h
abbrev pub Between : List ℕ → ℕ → ℕ → ℕ → Type 0
Between Q a h q = (j : ℕ) × (a ≤ j) × (j < h) × (get_or Q j 0 ≡ q)

-- a change that weighs d leads from couple q to couple c
abbrev pub Leads : Machine → ℕ → ℕ → ℕ → Type 0
Leads m d q c = Steps m q c × (step m extra q c ≡ d)

-- At couple c, where By holds of it: without a weight it gets weight r and parent p; of weight r with a higher parent it gets
-- parent p. Otherwise both lists keep what they have.
pub data Offer (By : ℕ → Type 0) (r p : ℕ) (R P R' P' : List ℕ) (c : ℕ) : Type 0 where
  given : By c → get_or R c 0 ≡ unweighed → get_or R' c 0 ≡ r → get_or P' c 0 ≡ p → Offer By r p R P R' P' c
  lower : By c → get_or R c 0 ≡ r → p < get_or P c 0 → get_or R' c 0 ≡ r → get_or P' c 0 ≡ p → Offer By r p R P R' P' c
  same : (By c → get_or R c 0 ≡ unweighed → ⊥) → (By c → get_or R c 0 ≡ r → get_or P c 0 ≤ p) → get_or R' c 0 ≡ get_or R c 0 → get_or P' c 0 ≡ get_or P c 0 → Offer By r p R P R' P' c

-- the first tail elements of the queue are couples with a weight, each once, and there is room for each couple
pub record Room (R P Q : List ℕ) (tail : ℕ) : Type 0 where
  pub parents_long : length P ≡ length R
  pub long : length R ≤ length Q
  pub few : length R ≤ most_couples
  pub low : (i : ℕ) → i < tail → get_or Q i 0 < length R
  pub once : (i j : ℕ) → i < tail → j < tail → get_or Q i 0 ≡ get_or Q j 0 → i ≡ j
  pub marked : (i : ℕ) → i < tail → get_or R (get_or Q i 0) 0 ≡ unweighed → ⊥

-- weight r and parent p offered to the couples of which By holds, those that get the weight put into the queue
pub record Pushed (By : ℕ → Type 0) (r p : ℕ) (R P Q : List ℕ) (tail : ℕ) (R' P' Q' : List ℕ) (tail' : ℕ) : Type 0 where
  pub room : Room R' P' Q' tail'
  pub same_length : length R' ≡ length R
  pub fresh : (a : ℕ) → Fresh r a R Q tail → Fresh r a R' Q' tail'
  pub more : tail ≤ tail'
  pub kept : (i : ℕ) → i < tail → get_or Q' i 0 ≡ get_or Q i 0
  pub offer : (c : ℕ) → Offer By r p R P R' P' c

-- The same from several couples: at couple c, weight r offered from each couple q of which By q c holds.
pub data Offers (By : ℕ → ℕ → Type 0) (r : ℕ) (R P R' P' : List ℕ) (c : ℕ) : Type 0 where
  given : get_or R c 0 ≡ unweighed → By (get_or P' c 0) c → ((q : ℕ) → By q c → get_or P' c 0 ≤ q) → get_or R' c 0 ≡ r → Offers By r R P R' P' c
  lower : get_or R c 0 ≡ r → By (get_or P' c 0) c → get_or P' c 0 < get_or P c 0 → ((q : ℕ) → By q c → get_or P' c 0 ≤ q) → get_or R' c 0 ≡ r → Offers By r R P R' P' c
  same : ((q : ℕ) → By q c → get_or R c 0 ≡ unweighed → ⊥) → ((q : ℕ) → By q c → get_or R c 0 ≡ r → get_or P c 0 ≤ q) → get_or R' c 0 ≡ get_or R c 0 → get_or P' c 0 ≡ get_or P c 0 → Offers By r R P R' P' c

pub record Spread (By : ℕ → ℕ → Type 0) (r : ℕ) (R P Q : List ℕ) (tail : ℕ) (R' P' Q' : List ℕ) (tail' : ℕ) : Type 0 where
  pub room : Room R' P' Q' tail'
  pub same_length : length R' ≡ length R
  pub fresh : (a : ℕ) → Fresh r a R Q tail → Fresh r a R' Q' tail'
  pub more : tail ≤ tail'
  pub kept : (i : ℕ) → i < tail → get_or Q' i 0 ≡ get_or Q i 0
  pub offers : (c : ℕ) → Offers By r R P R' P' c

-- At couple c, after offers of weight r from the couples q of which By q c holds: it had a weight, or got r and the least of them as
-- parent, or is left without.
pub data Expanded (By : ℕ → ℕ → Type 0) (r : ℕ) (R P R' P' : List ℕ) (c : ℕ) : Type 0 where
  had : (get_or R c 0 ≡ unweighed → ⊥) → get_or R' c 0 ≡ get_or R c 0 → get_or P' c 0 ≡ get_or P c 0 → Expanded By r R P R' P' c
  got : get_or R c 0 ≡ unweighed → By (get_or P' c 0) c → ((q : ℕ) → By q c → get_or P' c 0 ≤ q) → get_or R' c 0 ≡ r → Expanded By r R P R' P' c
  left : get_or R c 0 ≡ unweighed → ((q : ℕ) → By q c → ⊥) → get_or R' c 0 ≡ unweighed → get_or P' c 0 ≡ get_or P c 0 → Expanded By r R P R' P' c

-- a round in progress, since the queue ended at place e
pub record Spreads (By : ℕ → ℕ → Type 0) (r e : ℕ) (R P Q R' P' Q' : List ℕ) (tail : ℕ) : Type 0 where
  pub room : Room R' P' Q' tail
  pub same_length : length R' ≡ length R
  pub fresh : Fresh r e R' Q' tail
  pub kept : (i : ℕ) → i < e → get_or Q' i 0 ≡ get_or Q i 0
  pub expanded : (c : ℕ) → c < length R → Expanded By r R P R' P' c

-- one head of the queue went from place a to place h, over the couples that changes of weight d bring to weight r; no couple from place
-- a on comes below r, and the one at place h does not come to r
pub record Head (d r : ℕ) (R Q : List ℕ) (a h e : ℕ) : Type 0 where
  pub from : a ≤ h
  pub to : h ≤ e
  pub over : (i : ℕ) → a ≤ i → i < h → get_or R (get_or Q i 0) 0 + d ≡ r
  pub stop : h < e → get_or R (get_or Q h 0) 0 + d ≡ r → ⊥
  pub bound : a < e → r ≤ get_or R (get_or Q a 0) 0 + d
