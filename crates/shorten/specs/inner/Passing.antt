-- The two passes over the bytes of a plan, by a mark for each couple: the byte at which the last run that visits it starts, 0 if none
-- does, and the length of the plan once a run that stays visits it.
use Rattle.std.specs.Prelude.{◌≡◌, ◌↔◌, List, [], ◌∷◌, ◌++◌, ℕ, ◌+◌, ◌-◌, ◌≤◌, ◌<◌, length, get_or, set, take, drop}
use Rattle.verdict.specs.Buffers.{Front}
use Rattle.machine.specs.Limits.{most_couples}
use Rattle.machine.specs.Lists.{In}
use Rattle.machine.specs.Runs.{Machine, size, couples, couple, move, visits_from}
use Rattle.machine.specs.Plans.{VisitedBy, stored}
use Rattle.shorten.specs.Shortening.{Shortened}
use Rattle.shorten.specs.declared.Visited.{Visited}
use Rattle.shorten.specs.declared.Place.{Place}

-- settings to walk over from state s on
pub record Walkable (m : Machine) (s : ℕ) (run : List ℕ) : Type 0 where
  pub state : s < m.states
  pub below : (i : ℕ) → i < length run → get_or run i 0 < size m

-- what a change to setting w in state s visits, couples that have marks, and the state then
pub record Changed (m : Machine) (s w : ℕ) (r : Visited) : Type 0 where
  pub entered : r.entered ≡ couple m s w
  pub moved : r.moved ≡ couple m (move m s w) w
  pub state : r.state ≡ move m s w
  pub entered_below : r.entered < most_couples
  pub moved_below : r.moved < most_couples
  pub state_below : r.state < m.states

-- each couple of the list marked with x
abbrev pub noted : List ℕ → ℕ → List ℕ → List ℕ
noted [] x marks = marks
noted (c ∷ cs) x marks = noted cs x (set marks c x)

-- each couple of the list has a mark of at least x
pub record Reach (cs : List ℕ) (x : ℕ) (marks : List ℕ) : Type 0 where
  pub each : (c : ℕ) → In c cs → x ≤ get_or marks c 0

-- where a walk over settings from state s on stops: the couples in front have marks of at least x, the next setting visits one that has not
pub record Stops (m : Machine) (s : ℕ) (run : List ℕ) (x : ℕ) (marks : List ℕ) (r : Place) : Type 0 where
  pub within : r.settings ≤ length run
  pub state : r.state < m.states
  pub front : List ℕ
  pub walked : visits_from m s run ≡ front ++ visits_from m r.state (drop r.settings run)
  pub reach : Reach front x marks
  pub stops : r.settings < length run → Reach (visits_from m r.state (drop r.settings run)) x marks → ⊥

-- each mark is at most x
pub record Few (x : ℕ) (marks : List ℕ) : Type 0 where
  pub each : (c : ℕ) → get_or marks c 0 ≤ x

-- a mark for each couple, and none set
pub record Fresh (m : Machine) (marks : List ℕ) : Type 0 where
  pub room : couples m ≤ length marks
  pub none : (c : ℕ) → get_or marks c 0 ≡ 0

-- A mark for each couple, where the runs `rest` stand from byte p on: it reaches the end of one of them exactly if a run behind that end, or
-- one that stays, visits the couple.
pub record Tells (m : Machine) (p : ℕ) (kept rest : List (List ℕ)) (marks : List ℕ) : Type 0 where
  pub room : couples m ≤ length marks
  pub told : (done later : List (List ℕ)) (c : ℕ) → rest ≡ done ++ later → 0 < length done → c < couples m → (p + length (stored done) ≤ get_or marks c 0) ↔ VisitedBy m c (kept ++ later)

-- the settings of the run that is stored from byte p up to byte e
abbrev pub settings_in : ℕ → ℕ → List ℕ → List ℕ
settings_in p e plan = take (e - (p + 2)) (drop (p + 2) plan)

-- what the second pass leaves: bytes kept, plan
pub record Kept (m : Machine) (plan₀ : List ℕ) (n : ℕ) (plan₁ : List ℕ) : Type 0 where
  pub bytes : List ℕ
  pub shortened : Shortened m plan₀ bytes
  pub count : n ≡ length bytes
  pub front : Front bytes plan₀ plan₁
