-- The run to a couple (document 01, "Runs and ranks"). Assumes nothing: these are definitions.
use Rattle.std.specs.Prelude.{◌≡◌, List, [], ◌∷◌, ℕ, ◌≤◌, length}
use Rattle.machine.specs.Lists.{AtMost}
use Rattle.machine.specs.Runs.{Machine, couple, move, Visitor}

-- the resting couples before each change, from the last change back to the start
abbrev pub rests_from : Machine → List ℕ → ℕ → ℕ → List ℕ → List ℕ
rests_from m cs s v [] = cs
rests_from m cs s v (w ∷ ws) = rests_from m (couple m s v ∷ cs) (move m s w) w ws

abbrev pub rests : Machine → List ℕ → List ℕ
rests m [] = []
rests m (v ∷ vs) = rests_from m [] m.initial v vs

-- The run to couple c: of the runs that visit it, one with the fewest changes; among those, compared by the resting couples
-- before each change from the last back to the start, the one whose couple number is smaller where they first differ.
pub record RunTo (m : Machine) (c : ℕ) (vs : List ℕ) : Type 0 where
  pub visitor : Visitor m c vs
  pub fewest : (ws : List ℕ) → Visitor m c ws → length vs ≤ length ws
  pub least : (ws : List ℕ) → Visitor m c ws → length ws ≡ length vs → AtMost (rests m vs) (rests m ws)
