-- Machines, their runs, the couples that these visit, and ranks (document 01, "Runs and ranks"). Assumes nothing: these are definitions.
use Rattle.std.specs.Prelude.{◌≡◌, ◌⊎◌, List, [], ◌∷◌, Bool, true, false, not, ◌&&◌, ℕ, suc, ◌*◌, ◌%◌, ◌^◌, ◌≤◌, ◌<◌, get_or, length, eqb, ltb}
use Rattle.sets.specs.Sets.{member}
use Rattle.machine.specs.Limits.{unmarked}
use Rattle.machine.specs.Lists.{In}
use Rattle.machine.specs.Couples.{couple_at, differing}
use Rattle.machine.specs.Moves.{table_moves, Start}
use Rattle.machine.specs.declared.Frame.{Frame}

-- the sizes, the table of moves, at which settings a run may start, and from which setting it may change to which
pub record Machine : Type 0 where
  pub inputs : ℕ
  pub states : ℕ
  pub initial : ℕ
  pub table : List ℕ
  pub may_start : ℕ → Bool
  pub may_change : ℕ → ℕ → Bool

-- a setting that a frame does not rule out
abbrev pub usable : Frame → ℕ → Bool
usable f v = not (member f.never v)

-- an allowed start of a frame that it does not rule out
abbrev pub startable : Frame → ℕ → Bool
startable f v = member f.starts v && usable f v

-- whether a change may alter so many inputs: exactly one; where several may change at once, at least one
abbrev pub may_alter : Bool → ℕ → Bool
may_alter false d = eqb d 1
may_alter true d = ltb 0 d

-- the machine of a frame and a table, one input changing at a time or several at once: a run may start at an allowed start that is not
-- ruled out, and each change is to a setting that is not
abbrev pub machine_by : Bool → Frame → List ℕ → Machine
machine_by several f table = record {
  inputs = f.inputs;
  states = f.states;
  initial = f.initial;
  table = table;
  may_start = λ v. startable f v;
  may_change = λ v w. usable f w && may_alter several (differing f.inputs v w);
}

-- document 01's machine: each change is of exactly one input
abbrev pub machine_of : Frame → List ℕ → Machine
machine_of = machine_by false

-- the machine of sizes and a table alone: a run may start at any setting, and each change is of exactly one input
abbrev pub bare_machine : ℕ → ℕ → ℕ → List ℕ → Machine
bare_machine inputs states initial table = record {
  inputs = inputs;
  states = states;
  initial = initial;
  table = table;
  may_start = λ v. true;
  may_change = λ v w. eqb (differing inputs v w) 1;
}

-- a machine whose runs may start elsewhere
abbrev pub starting_at : (ℕ → Bool) → Machine → Machine
starting_at may_start m = record {
  inputs = m.inputs;
  states = m.states;
  initial = m.initial;
  table = m.table;
  may_start = may_start;
  may_change = m.may_change;
}

-- the couple c is one of a setting that a frame rules out
abbrev pub RuledOut : Frame → ℕ → Type 0
RuledOut f c = usable f (c % 2 ^ f.inputs) ≡ false

-- how many settings there are, and how many couples
abbrev pub size : Machine → ℕ
size m = 2 ^ m.inputs

abbrev pub couples : Machine → ℕ
couples m = m.states * size m

-- the number of the couple (s, v), and its move
abbrev pub couple : Machine → ℕ → ℕ → ℕ
couple m s v = couple_at (size m) s v

abbrev pub move : Machine → ℕ → ℕ → ℕ
move m s v = get_or m.table (couple m s v) 0

-- moves are states, there are no transients, the initial state is a state
pub record Sound (m : Machine) : Type 0 where
  pub closed : (c : ℕ) → c < couples m → get_or m.table c 0 < m.states
  pub calm : (s v : ℕ) → s < m.states → v < size m → move m (move m s v) v ≡ move m s v
  pub begins : m.initial < m.states

-- a start: a setting at which the initial state rests, and at which a run may start
abbrev pub Starts : Machine → ℕ → Type 0
Starts m v = Start (table_moves m.table (size m)) (λ u. m.may_start u ≡ true) (size m) m.initial v

-- a change from setting v to setting w
pub record Changes (m : Machine) (v w : ℕ) : Type 0 where
  pub below : w < size m
  pub allowed : m.may_change v w ≡ true

-- a run: a start, then settings that are each a change from the one before
abbrev pub Goes : Machine → ℕ → List ℕ → Type 0
Goes m v [] = Unit {0}
Goes m v (w ∷ ws) = Changes m v w × Goes m w ws

abbrev pub Run : Machine → List ℕ → Type 0
Run m [] = ⊥
Run m (v ∷ vs) = Starts m v × Goes m v vs

-- refusal 17: index i is a fault, the list being empty, its first setting no start, or a later one no change from the one before
pub data Fault (m : Machine) (vs : List ℕ) : ℕ → Type 0 where
  empty : length vs ≡ 0 → Fault m vs 0
  no_start : 0 < length vs → (Starts m (get_or vs 0 0) → ⊥) → Fault m vs 0
  no_change : {i : ℕ} → suc i < length vs → (Changes m (get_or vs i 0) (get_or vs (suc i) 0) → ⊥) → Fault m vs (suc i)

-- the start visits (initial, v); a change to w in state s visits (s, w) and then (move, w)
abbrev pub visits_from : Machine → ℕ → List ℕ → List ℕ
visits_from m s [] = []
visits_from m s (w ∷ ws) = couple m s w ∷ couple m (move m s w) w ∷ visits_from m (move m s w) ws

abbrev pub visits : Machine → List ℕ → List ℕ
visits m [] = []
visits m (v ∷ vs) = couple m m.initial v ∷ visits_from m m.initial vs

-- a run that visits the couple c
pub record Visitor (m : Machine) (c : ℕ) (vs : List ℕ) : Type 0 where
  pub run : Run m vs
  pub sees : In c (visits m vs)

-- marked: visited by some run
abbrev pub Marked : Machine → ℕ → Type 0
Marked m c = (vs : List ℕ) × Visitor m c vs

-- rank: the fewest changes of any run that visits the couple; a run of L settings has L - 1 changes
pub record Rank (m : Machine) (c r : ℕ) : Type 0 where
  pub some : List ℕ
  pub visitor : Visitor m c some
  pub changes : length some ≡ suc r
  pub fewest : (vs : List ℕ) → Visitor m c vs → suc r ≤ length vs

-- what a rank buffer holds for the couple c: its rank, or 65,535 if it is not marked
abbrev pub RankOrUnmarked : Machine → ℕ → ℕ → Type 0
RankOrUnmarked m c x = ((x < unmarked) × Rank m c x) ⊎ ((x ≡ unmarked) × (Marked m c → ⊥))

-- the ranks of a machine, of each couple so
pub record RanksOf (m : Machine) (ranks : List ℕ) : Type 0 where
  pub whole : length ranks ≡ couples m
  pub each : (c : ℕ) → c < couples m → RankOrUnmarked m c (get_or ranks c 0)
