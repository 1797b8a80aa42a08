-- Runs that may change several inputs at once, and the one to a couple (document 02, ticket 6). Assumes nothing: these are definitions.
use Rattle.std.specs.Prelude.{◌≡◌, List, [], ◌∷◌, ◌&&◌, ℕ, ◌+◌, ◌≤◌, length, eqb}
use Rattle.machine.specs.Lists.{AtMost}
use Rattle.machine.specs.Couples.{differing, one_unless}
use Rattle.machine.specs.Runs.{Machine, Visitor}
use Rattle.machine.specs.Shortest.{rests}

-- of a machine, the one with those changes only that alter exactly one input
abbrev pub singly : Machine → Machine
singly m = record {
  inputs = m.inputs;
  states = m.states;
  initial = m.initial;
  table = m.table;
  may_start = m.may_start;
  may_change = λ v w. m.may_change v w && eqb (differing m.inputs v w) 1;
}

-- 0 for a change of exactly one input, 1 for a multiple change
abbrev pub multiple : Machine → ℕ → ℕ → ℕ
multiple m v w = one_unless (eqb (differing m.inputs v w) 1)

-- the multiple changes of a run
abbrev pub multiples_from : Machine → ℕ → List ℕ → ℕ
multiples_from m v [] = 0
multiples_from m v (w ∷ ws) = multiple m v w + multiples_from m w ws

abbrev pub multiples : Machine → List ℕ → ℕ
multiples m [] = 0
multiples m (v ∷ vs) = multiples_from m v vs

-- The run to couple c, where several inputs may change at once: of the runs that visit it, one with the fewest multiple
-- changes, and among those the fewest changes in all; ties are broken as for the run of document 01.
pub record MultiRunTo (m : Machine) (c : ℕ) (vs : List ℕ) : Type 0 where
  pub visitor : Visitor m c vs
  pub fewest_multiples : (ws : List ℕ) → Visitor m c ws → multiples m vs ≤ multiples m ws
  pub fewest : (ws : List ℕ) → Visitor m c ws → multiples m ws ≡ multiples m vs → length vs ≤ length ws
  pub least : (ws : List ℕ) → Visitor m c ws → multiples m ws ≡ multiples m vs → length ws ≡ length vs → AtMost (rests m vs) (rests m ws)
