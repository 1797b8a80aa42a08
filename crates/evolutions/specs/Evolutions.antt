-- The condition of an evolution, asked of its record (document 01, "Specification file"). Assumes nothing: these are definitions.
use Rattle.std.specs.Prelude.{List, ℕ, ◌+◌, ◌≤◌, length, take, drop}
use Rattle.condition.specs.Condition.{Holds}
use Rattle.evolutions.specs.declared.Evolution.{Evolution}

-- a record that is all zero
abbrev pub blank : Evolution
blank = record { source = 0; target = 0; at = 0; length = 0 }

-- the condition of an evolution's record, within the file, holds at the setting v
pub record Met (file : List ℕ) (e : Evolution) (inputs v : ℕ) : Type 0 where
  pub inside : e.at + e.length ≤ length file
  pub holds : Holds inputs v (take e.length (drop e.at file))
