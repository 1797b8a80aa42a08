-- Readings (document 01, "Runs and ranks"), and the boards that demand 3 speaks of. Assumes nothing: these are definitions.
use Rattle.std.specs.Prelude.{◌≡◌, List, [], ◌∷◌, ℕ, ◌<◌}
use Rattle.machine.specs.Runs.{Machine, size, move}

-- a board: the state that it resets to, its move in a state at a setting, and the output word of a state
pub record Board : Type 0 where
  pub initial : ℕ
  pub moves : ℕ → ℕ → ℕ
  pub words : ℕ → ℕ

-- after each change, read after one move and again after a second move
abbrev pub readings_from : Board → ℕ → List ℕ → List ℕ
readings_from b s [] = []
readings_from b s (w ∷ ws) =
    b.words (b.moves s w) ∷ b.words (b.moves (b.moves s w) w) ∷ readings_from b (b.moves (b.moves s w) w) ws

-- reset to the initial state, apply the start, let one move pass, read the outputs; an empty run has no readings
abbrev pub readings : Board → List ℕ → List ℕ
readings b [] = []
readings b (v ∷ vs) = b.words (b.moves b.initial v) ∷ readings_from b (b.moves b.initial v) vs

-- the board that the specification's moves and words make: its readings are the expected ones
abbrev pub specified : Machine → (ℕ → ℕ) → Board
specified m word = record { initial = m.initial; moves = λ s v. move m s v; words = word }

-- the words of states all differ
abbrev pub Differ : Machine → (ℕ → ℕ) → Type 0
Differ m word = (s t : ℕ) → s < m.states → t < m.states → word s ≡ word t → s ≡ t

-- a board with the same inputs, states, initial state and words, and any moves at all among its states
pub record Alike (m : Machine) (word : ℕ → ℕ) (b : Board) : Type 0 where
  pub initial : b.initial ≡ m.initial
  pub words : (s : ℕ) → s < m.states → b.words s ≡ word s
  pub closed : (s v : ℕ) → s < m.states → v < size m → b.moves s v < m.states
