-- What the functions that read a part of a condition find.
use Rattle.std.specs.Prelude.{Result, Ok, Err, ℕ, suc, ◌+◌, ◌-◌, ◌≤◌, ◌<◌, ◌≡◌, List, [], ◌∷◌, ◌++◌, Bool, length, take, drop, get_or}
-- the byte of a character, for the contracts too
pub use Prim.Native.Char.{code}
use Rattle.condition.specs.Grammar.{Level, Join as GrammarJoin, or, and, factor, joined, part, byte, Tree, text, opened, Below, holds}
use Rattle.condition.specs.declared.Join.{Join}
use Rattle.condition.specs.declared.Join.TheVariants.{Or, And}
use Rattle.condition.specs.declared.Part.{Part}
use Rattle.condition.specs.declared.Reader.{Reader}
use Rattle.condition.specs.declared.Stop.{Stop}
use Rattle.condition.specs.Condition.{parentheses}

-- w does not begin with c
abbrev pub NotFirst : ℕ → List ℕ → Type 0
NotFirst c w = (r : List ℕ) → w ≡ c ∷ r → ⊥

-- c stands at `at` in s
pub record At (s : List ℕ) (at c : ℕ) : Type 0 where
  pub within : at < length s
  pub is : get_or s at 0 ≡ c

-- w is the text of a tree of level l, and then r; at most d parentheses are open at any place, and each letter is as `Below` says
pub record Reading (l : Level) (n d : ℕ) (w r : List ℕ) : Type 0 where
  pub tree : Tree l
  pub spelt : w ≡ text tree ++ r
  pub nested : opened tree ≤ d
  pub known : Below n tree

-- r does not go on with a part of level l that stands before it
abbrev pub Ends : Level → List ℕ → Type 0
Ends factor r = Unit
Ends (joined and) r = NotFirst (byte and) r
Ends (joined or) r = NotFirst (byte and) r × NotFirst (byte or) r

-- from `at` to `end` stands a part of level l, and it says b at the setting v
pub record FoundTo (l : Level) (n v d : ℕ) (s : List ℕ) (at : ℕ) (b : Bool) (end : ℕ) : Type 0 where
  pub later : at < end
  pub within : end ≤ length s
  pub ends : Ends l (drop end s)
  pub reading : Reading l n d (drop at s) (drop end s)
  pub value : holds v reading.tree ≡ b

-- w does not begin with a part of level l: its first m characters can be continued to one, and no list with the same first m + 1
-- characters, or the same end, begins with one
pub record Failed (l : Level) (n d : ℕ) (w : List ℕ) (m : ℕ) : Type 0 where
  pub short : m ≤ length w
  pub alive : (q : List ℕ) × Reading l n d (take m w ++ q) []
  pub dead : (w' r : List ℕ) → take (suc m) w' ≡ take (suc m) w → Ends l r → Reading l n d w' r → ⊥

-- reading at `at` fails, and stops at `place`
pub record FailedAt (l : Level) (n d : ℕ) (s : List ℕ) (at place : ℕ) : Type 0 where
  pub passed : ℕ
  pub count : place ≡ at + passed
  pub failed : Failed l n d (drop at s) passed

-- what reading a part of level l at `at` finds
abbrev pub Found : Level → Reader → ℕ → Result Part Stop → Type 0
Found l r at (Ok p) = FoundTo l r.inputs r.setting (parentheses - r.opened) r.text.now at p.holds p.end
Found l r at (Err e) = FailedAt l r.inputs (parentheses - r.opened) r.text.now at e.place

-- the grammar's name of a join, and the level of what it joins
abbrev pub join_of : Join → GrammarJoin
join_of Or = or
join_of And = and

abbrev pub level_of : Join → Level
level_of j = part (join_of j)
