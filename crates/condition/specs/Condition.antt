-- Document 01, "Conditions", and document 02, ticket 4: when a text reads, what it says, and which character is wrong in one that does
-- not read. Assumes nothing: these are definitions.
use Rattle.std.specs.Prelude.{ℕ, ◌+◌, ◌≤◌, ◌≡◌, List, ◌++◌, Bool, true, length, take, Result, Ok, Err}
use Rattle.verdict.specs.Checks.{Least}
use Rattle.condition.specs.Grammar.{condition, Tree, text, opened, Below, holds}
use Rattle.condition.specs.declared.Unread.{Unread}

-- there are at most 8 parentheses open at any place
abbrev pub parentheses : ℕ
parentheses = 8

-- w reads at n inputs: it is the text of a condition, within the limits
pub record Reads (n : ℕ) (w : List ℕ) : Type 0 where
  pub tree : Tree condition
  pub spelt : text tree ≡ w
  pub nested : opened tree ≤ parentheses
  pub known : Below n tree

-- w is the text of a condition which holds at the setting v
pub record Holds (n v : ℕ) (w : List ℕ) : Type 0 where
  pub reads : Reads n w
  pub true_there : holds v reads.tree ≡ true

-- w can be continued, at whatever length, to a condition that reads at n inputs: some list behind it makes it read
pub record CanBeContinued (n : ℕ) (w : List ℕ) : Type 0 where
  pub behind : List ℕ
  pub reads : Reads n (w ++ behind)

-- the character of w, which does not read: the smallest number of leading characters that cannot be continued; if w only stops too
-- early, its length plus one
pub data CharacterOf (n : ℕ) (w : List ℕ) : ℕ → Type 0 where
  cannot : {k : ℕ} → Least (λ i. CanBeContinued n (take i w) → ⊥) k → CharacterOf n w k
  early : CanBeContinued n w → (Reads n w → ⊥) → CharacterOf n w (length w + 1)

-- the number of each answer: 0 is success, 5 a condition that does not read; and its character, 0 with success
abbrev pub number_of : Result Bool Unread → ℕ
number_of (Ok b) = 0
number_of (Err u) = 5

abbrev pub character_of : Result Bool Unread → ℕ
character_of (Ok b) = 0
character_of (Err u) = u.character

-- m is what w says at the setting v: 0, and what its condition says there; or 5, and the character of w
pub record Says (n v : ℕ) (w : List ℕ) (m : Result Bool Unread) : Type 0 where
  pub value : number_of m ≡ 0 → (x : Reads n w) × (m ≡ Ok (holds v x.tree))
  pub unread : number_of m ≡ 5 → CharacterOf n w (character_of m)
