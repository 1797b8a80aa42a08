-- Demand 3, over what is left in a rank buffer and at the front of a plan buffer and of reading buffers. Assumes nothing: these are
-- definitions.
use Rattle.std.specs.Prelude.{◌≡◌, ◌↔◌, List, ℕ, ◌<◌, get_or, length, take}
use Rattle.verdict.specs.declared.Answer.{Answer}
use Rattle.machine.specs.Limits.{unmarked}
use Rattle.machine.specs.Lists.{In}
use Rattle.machine.specs.Runs.{Machine, size, couples, couple, move, Run, Marked, Rank}
use Rattle.machine.specs.Plans.{VisitedBy, stored, runs_in}
use Rattle.machine.specs.Boards.{Board, readings, specified, Differ, Alike}
use Rattle.plan.specs.Planning.{PlanBytes}
use Rattle.readings.specs.Expected.{ExpectedAs}

-- a rank is stored for couple c
abbrev pub RankStored : List ℕ → ℕ → Type 0
RankStored ranks c = get_or ranks c 0 ≡ unmarked → ⊥

-- a rank is stored for a couple exactly if some run, of whatever length, visits it, and it is the fewest changes of such a run
pub record RightRanks (m : Machine) (ranks : List ℕ) : Type 0 where
  pub stored_if : (c : ℕ) → c < couples m → RankStored ranks c ↔ Marked m c
  pub fewest : (c : ℕ) → c < couples m → RankStored ranks c → Rank m c (get_or ranks c 0)

-- the runs that the bytes hold are runs, they visit every marked couple and no other, and the bytes are these runs and no others
pub record RightPlan (m : Machine) (bytes : List ℕ) : Type 0 where
  pub runs : (vs : List ℕ) → In vs (runs_in bytes) → Run m vs
  pub visits : (c : ℕ) → VisitedBy m c (runs_in bytes) ↔ Marked m c
  pub splits : stored (runs_in bytes) ≡ bytes
  pub one_way : (plan : List (List ℕ)) → stored plan ≡ bytes → plan ≡ runs_in bytes

-- Boards with the same inputs, states, initial state and outputs as the specification, all outputs different, and any moves at all:
-- every reading on every run that the bytes hold equals the expected one exactly if the board's move equals the specification's at
-- every marked couple.
abbrev pub TellsBoards : Machine → List ℕ → Type 0
TellsBoards m bytes = (word : ℕ → ℕ) → Differ m word → (b : Board) → Alike m word b
    → ((vs : List ℕ) → In vs (runs_in bytes) → readings b vs ≡ readings (specified m word) vs)
    ↔ ((s v : ℕ) → s < m.states → v < size m → Marked m (couple m s v) → b.moves s v ≡ move m s v)

-- expected readings answered 0 for a run, and left this sheet at the front of their buffer
pub record Expected (m : Machine) (words run sheet : List ℕ) : Type 0 where
  pub before : List ℕ
  pub after : List ℕ
  pub answer : Answer
  pub promise : ExpectedAs m words run before answer after
  pub success : answer.number ≡ 0
  pub is : sheet ≡ take answer.place after

-- The same over what expected readings leave: every reading on every run that the bytes hold equals the one on its sheet exactly if the
-- board's move is right at every marked couple.
abbrev pub TellsBySheets : Machine → List ℕ → Type 0
TellsBySheets m bytes = (words : List ℕ) → Differ m (λ s. get_or words s 0) → (b : Board) → Alike m (λ s. get_or words s 0) b
    → (sheet : List ℕ → List ℕ) → ((vs : List ℕ) → In vs (runs_in bytes) → Expected m words vs (sheet vs))
    → ((vs : List ℕ) → In vs (runs_in bytes) → readings b vs ≡ sheet vs)
    ↔ ((s v : ℕ) → s < m.states → v < size m → Marked m (couple m s v) → b.moves s v ≡ move m s v)

-- the plan, or the shortening of one, answered 0, and the bytes that it left are right
pub record Planned (m : Machine) (a : Answer) (plan : List ℕ) : Type 0 where
  pub number : a.number ≡ 0
  pub right : RightPlan m (take a.place plan)
  pub tells : TellsBoards m (take a.place plan)
  pub by_sheets : TellsBySheets m (take a.place plan)

-- the plan answered 16, with its length, for which there was no room
pub record LongPlan (m : Machine) (room : ℕ) (a : Answer) : Type 0 where
  pub number : a.number ≡ 16
  pub bytes : List ℕ
  pub planned : PlanBytes m bytes
  pub place : a.place ≡ length bytes
  pub short : room < length bytes
