-- Moves and soundness (document 01), over any relation `Moves s v t`: the move at (s, v) is t. Assumes nothing: these are definitions.
use Rattle.std.specs.Prelude.{◌≡◌, List, ℕ, ◌≤◌, ◌<◌, get_or}
use Rattle.machine.specs.Couples.{couple_at, Couple}

-- the moves of a table: that of a couple stands at its number
abbrev pub table_moves : List ℕ → ℕ → ℕ → ℕ → ℕ → Type 0
table_moves table settings s v t = get_or table (couple_at settings s v) 0 ≡ t

-- a couple is at rest if its move is its own state
abbrev pub Rests : (ℕ → ℕ → ℕ → Type 0) → ℕ → ℕ → Type 0
Rests Moves s v = Moves s v s

-- refusal 4 of a table: at couple p it holds no state
pub record Stateless (table : List ℕ) (states settings p : ℕ) : Type 0 where
  pub s : ℕ
  pub v : ℕ
  pub couple : Couple states settings s v p
  pub beyond : states ≤ get_or table p 0

-- refusal 10: the couple p moves to a state that does not rest at the same setting
pub record Transient (Moves : ℕ → ℕ → ℕ → Type 0) (states settings p : ℕ) : Type 0 where
  pub s : ℕ
  pub v : ℕ
  pub t : ℕ
  pub couple : Couple states settings s v p
  pub moves : Moves s v t
  pub unrest : Rests Moves t v → ⊥

-- the initial state is reached, and from a state that is, the move at each setting
pub data Reached (Moves : ℕ → ℕ → ℕ → Type 0) (settings initial : ℕ) : ℕ → Type 0 where
  start : Reached Moves settings initial initial
  step : {s t : ℕ} (v : ℕ) → Reached Moves settings initial s → v < settings → Moves s v t → Reached Moves settings initial t

-- refusal 12: the state s is never reached
pub record Unreached (Moves : ℕ → ℕ → ℕ → Type 0) (states settings initial s : ℕ) : Type 0 where
  pub state : s < states
  pub never : Reached Moves settings initial s → ⊥

-- refusal 11: the state s has the output word of an earlier one
pub record SameWord (word : ℕ → ℕ) (states s : ℕ) : Type 0 where
  pub state : s < states
  pub earlier : ℕ
  pub before : earlier < s
  pub same : word earlier ≡ word s

-- a start: a setting at which the initial state rests, and at which a run may start; refusal 13 says that there is none
pub record Start (Moves : ℕ → ℕ → ℕ → Type 0) (MayStart : ℕ → Type 0) (settings initial v : ℕ) : Type 0 where
  pub below : v < settings
  pub rests : Rests Moves initial v
  pub allowed : MayStart v
