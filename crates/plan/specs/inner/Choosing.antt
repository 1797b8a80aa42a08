-- Choosing the couples of a plan or list, over flags of the couples that its runs visit.
use Rattle.std.specs.Prelude.{◌≡◌, List, [], ◌++◌, Bool, true, false, not, cond, ℕ, zero, suc, ◌+◌, ◌*◌, ◌/◌, ◌%◌, ◌≤◌, ◌<◌, length, get_or, set, replicate, eqb, leb}
use Rattle.machine.specs.Limits.{most_couples, unmarked}
use Rattle.several.specs.Weights.{extra, unweighed}
use Rattle.plan.specs.inner.Writing.{stored_by, Tree}

-- the couples that a change from couple p to setting v visits, noted
unfoldable pub noted_change : List ℕ → ℕ → ℕ → ℕ → List Bool → List Bool
noted_change table size p v visited =
    set (set visited (p / size * size + v) true) (get_or table (p / size * size + v) 0 * size + v) true

-- those that the run to couple c, of so many changes, visits, noted from its end
unfoldable pub noted_run : List ℕ → List ℕ → ℕ → ℕ → ℕ → List Bool → List Bool
noted_run table parents size c zero visited = set visited c true
noted_run table parents size c (suc r) visited =
    noted_run table parents size (get_or parents c 0) r (noted_change table size (get_or parents c 0) (c % size) visited)

-- the plan looks at a couple of weight w: some run visits it; the list, if no run of single changes does
unfoldable pub looks_at : Bool → ℕ → Bool
looks_at several w = cond (eqb w unweighed) false (cond several (leb extra w) true)

-- couple c is one of these, and no run has visited it yet
unfoldable pub wanted : Bool → List ℕ → List Bool → ℕ → Bool
wanted several weights visited c = cond (looks_at several (get_or weights c 0)) (not (get_or visited c false)) false

module _ (several : Bool) (table parents weights : List ℕ) (size : ℕ) where
  -- couple c in its turn: what is visited after it, and the bytes of its stored run
  unfoldable pub noted_at : ℕ → List Bool → List Bool
  noted_at c visited = cond (wanted several weights visited c) (noted_run table parents size c (get_or weights c 0 % extra) visited) visited

  unfoldable pub bytes_at : ℕ → List Bool → ℕ
  bytes_at c visited = cond (wanted several weights visited c) (get_or weights c 0 % extra + cond several 5 3) 0

  -- the first c couples in rising number, each so: what is visited, which are chosen, the bytes of the stored runs
  unfoldable pub noted : ℕ → List Bool → List Bool
  noted zero visited = visited
  noted (suc c) visited = noted_at c (noted c visited)

  unfoldable pub flags : ℕ → List Bool → List Bool → List Bool
  flags zero visited chosen = chosen
  flags (suc c) visited chosen = set (flags c visited chosen) c (wanted several weights (noted c visited) c)

  unfoldable pub bytes : ℕ → List Bool → ℕ
  bytes zero visited = 0
  bytes (suc c) visited = bytes c visited + bytes_at c (noted c visited)

  -- and the stored runs
  unfoldable pub plan : ℕ → List Bool → List ℕ
  plan zero visited = []
  plan (suc c) visited =
      plan c visited ++ cond (wanted several weights (noted c visited) c) (stored_by several parents size c (get_or weights c 0)) []

  -- couple c in its turn took flags of visited and chosen couples from the first two lists to the last two, and n bytes
  pub record Turn (c n : ℕ) (visited chosen visited' chosen' : List Bool) : Type 0 where
    pub bytes_are : n ≡ bytes_at c visited
    pub bytes_few : n ≤ unmarked + 5
    pub visited_are : visited' ≡ noted_at c visited
    pub chosen_are : chosen' ≡ set chosen c (wanted several weights visited c)

  -- and so did the first c couples
  pub record Chosen (c n : ℕ) (visited chosen visited' chosen' : List Bool) : Type 0 where
    pub bytes_are : n ≡ bytes c visited
    pub bytes_few : n ≤ c * (unmarked + 5)
    pub visited_are : visited' ≡ noted c visited
    pub chosen_are : chosen' ≡ flags c visited chosen

-- the weights and parents of t couples, in a table of their moves: what a change visits is a couple, and runs are short enough to be stored
pub record Room (table parents weights : List ℕ) (size t : ℕ) : Type 0 where
  pub tree : Tree parents size t
  pub few : t ≤ most_couples
  pub table_long : t ≤ length table
  pub weights_long : t ≤ length weights
  pub row : (c v : ℕ) → c < t → v < size → c / size * size + v < t
  pub moved : (c v : ℕ) → c < t → v < size → get_or table c 0 * size + v < t
  pub short : (c : ℕ) → c < t → (get_or weights c 0 ≡ unweighed → ⊥) → get_or weights c 0 % extra < unmarked

-- the stored plan or list of t couples, none of which is visited before
abbrev pub whole_plan : Bool → List ℕ → List ℕ → List ℕ → ℕ → ℕ → List ℕ
whole_plan several table parents weights size t = plan several table parents weights size t (replicate most_couples false)
