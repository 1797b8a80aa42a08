-- What the functions of marking by a queue ask of one another.
use Rattle.std.specs.Prelude.{◌≡◌, ◌⊎◌, Bool, true, false, List, ℕ, suc, ◌+◌, ◌/◌, ◌%◌, ◌^◌, ◌≤◌, ◌<◌, length, get_or, Option, Some, None}
use Rattle.machine.specs.Couples.{differing}
use Rattle.machine.specs.inner.Flips.{flipped}
use Rattle.machine.specs.Runs.{Machine, size, couples, couple, move, Starts}
use Rattle.several.specs.Weights.{extra, unweighed}
use Rattle.marking.specs.declared.changes.Changes.{Changes}
use Rattle.marking.specs.declared.changes.Changes.TheVariants.{Single, Multiple}
use Rattle.marking.specs.inner.Levels.{Level, Heads}
use Rattle.marking.specs.inner.Queue.{Between, Room, Spread}

-- a change from setting v to setting w is multiple, or of one input
abbrev pub Kind : Changes → ℕ → ℕ → ℕ → Type 0
Kind Multiple n v w = 1 < differing n v w
Kind Single n v w = differing n v w ≡ 1

-- what it weighs
abbrev pub weight_of : Changes → ℕ
weight_of Multiple = suc extra
weight_of Single = 1

-- in state s, a change to setting w visits d
abbrev pub ByChange : Machine → ℕ → ℕ → ℕ → Type 0
ByChange m s w d = (d ≡ couple m s w) ⊎ (d ≡ couple m (move m s w) w)

-- from couple p, a change to setting w, which a run may make, visits d
abbrev pub ByChanged : Machine → ℕ → ℕ → ℕ → Type 0
ByChanged m p w d = (m.may_change (p % size m) w ≡ true) × ByChange m (p / size m) w d

-- how many changes of a kind are tried, each input flipped or each setting
abbrev pub tried : Changes → Machine → ℕ
tried Multiple m = size m
tried Single m = m.inputs

-- the one with number i, from setting v, is to setting w
abbrev pub Nth : Changes → Machine → ℕ → ℕ → ℕ → Type 0
Nth Multiple m v i w = (w ≡ i) × Kind Multiple m.inputs v w
Nth Single m v i w = w ≡ flipped v (2 ^ i)

-- a search for that setting, among those to which a run may change
abbrev pub Told : Changes → Machine → ℕ → ℕ → Option ℕ → Type 0
Told many m v i (Some w) = Nth many m v i w × (m.may_change v w ≡ true)
Told many m v i None = (w : ℕ) → Nth many m v i w → m.may_change v w ≡ true → ⊥

-- from couple p, the change with number i visits d
abbrev pub ByNth : Changes → Machine → ℕ → ℕ → ℕ → Type 0
ByNth many m p i d = (w : ℕ) × Nth many m (p % size m) i w × ByChanged m p w d

-- one of the first t does
abbrev pub ByFirst : Changes → Machine → ℕ → ℕ → ℕ → Type 0
ByFirst many m p t d = (i : ℕ) × (i < t) × ByNth many m p i d

-- from couple p, at rest, a change of a kind to any setting does
abbrev pub ByRest : Changes → Machine → ℕ → ℕ → Type 0
ByRest many m p d = (get_or m.table p 0 ≡ p / size m) × (w : ℕ) × (w < size m) × Kind many m.inputs (p % size m) w × ByChanged m p w d

-- d is the couple of the initial state and setting u, a start
abbrev pub ByStart : Machine → ℕ → ℕ → Type 0
ByStart m u d = Starts m u × (d ≡ couple m m.initial u)

-- d is that of a start among the first v settings
abbrev pub ByStarts : Machine → ℕ → ℕ → Type 0
ByStarts m v d = (u : ℕ) × (u < v) × ByStart m u d

-- couple c can be expanded, to weight r
pub record Expands (m : Machine) (R P Q : List ℕ) (tail c r : ℕ) : Type 0 where
  pub room : Room R P Q tail
  pub total : length R ≡ couples m
  pub below : c < length R
  pub small : r < unweighed

-- one head can go over the queue from place a up to place e, offering weight r
pub record Spreading (m : Machine) (R P Q : List ℕ) (r a e tail : ℕ) : Type 0 where
  pub room : Room R P Q tail
  pub total : length R ≡ couples m
  pub small : r < unweighed
  pub from : a ≤ e
  pub to : e ≤ tail
  pub light : (i : ℕ) → i < e → get_or R (get_or Q i 0) 0 + suc extra ≤ unweighed

-- it has come to place h: the couples before it, which changes of its kind bring to weight r, were expanded
pub record Going (m : Machine) (many : Changes) (r a e : ℕ) (R P Q : List ℕ) (tail : ℕ) (R' P' Q' : List ℕ) (h tail' : ℕ) : Type 0 where
  pub spread : Spread (λ q d. Between Q a h q × ByRest many m q d) r R P Q tail R' P' Q' tail'
  pub from : a ≤ h
  pub to : h ≤ e
  pub over : (i : ℕ) → a ≤ i → i < h → get_or R (get_or Q i 0) 0 + weight_of many ≡ r

-- and stays there: they do not bring the couple at place h to weight r
pub record SpreadAs (m : Machine) (many : Changes) (r a e : ℕ) (R P Q : List ℕ) (tail : ℕ) (R' P' Q' : List ℕ) (h tail' : ℕ) : Type 0 where
  pub going : Going m many r a e R P Q tail R' P' Q' h tail'
  pub stop : h < e → get_or R (get_or Q h 0) 0 + weight_of many ≡ r → ⊥

-- at this place the queue holds a couple whose weight can be added to
pub record Light (R Q : List ℕ) (i : ℕ) : Type 0 where
  pub long : i < length Q
  pub low : get_or Q i 0 < length R
  pub light : get_or R (get_or Q i 0) 0 + suc extra ≤ unweighed

-- r is the least weight to which the changes of the couples at places a and b bring others, where these are before place e
pub record Next (r : ℕ) (R Q : List ℕ) (a b e : ℕ) : Type 0 where
  pub one : a < e → r ≤ get_or R (get_or Q a 0) 0 + 1
  pub many : b < e → r ≤ get_or R (get_or Q b 0) 0 + suc extra
  pub is : ((a < e) × (get_or R (get_or Q a 0) 0 + 1 ≡ r)) ⊎ ((b < e) × (get_or R (get_or Q b 0) 0 + suc extra ≡ r))

-- a round is left: the queue of e couples does not hold all t, and a head is before its end, the first at place a, or where several inputs
-- may change at once the second at place b
abbrev pub Before : Bool → ℕ → ℕ → ℕ → Type 0
Before true a b e = b < e
Before false a b e = a < e

pub record RoundLeft (several : Bool) (a b e t : ℕ) : Type 0 where
  pub some : e < t
  pub head : Before several a b e

-- between rounds: all weights up to some weight, the two heads at places a and b, and no parent for a start or a couple without a weight
pub record Progress (m : Machine) (R P Q : List ℕ) (a b tail : ℕ) : Type 0 where
  pub up_to : ℕ
  pub small : up_to < unweighed
  pub level : Level m up_to R P
  pub heads : Heads m up_to R Q a b tail
  pub room : Room R P Q tail
  pub total : length R ≡ couples m
  pub a_in : a ≤ tail
  pub b_in : b ≤ tail
  pub orphan : (c : ℕ) → c < length R → (get_or R c 0 ≡ 0) ⊎ (get_or R c 0 ≡ unweighed) → get_or P c 0 ≡ 0
