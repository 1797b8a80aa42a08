-- Document 01, "Conditions": the trees of the grammar, their texts, and what they say. Assumes nothing: these are definitions.
use Rattle.std.specs.Prelude.{ℕ, suc, max, ◌+◌, ◌<◌, List, [], ◌∷◌, ◌++◌, Bool, true, false, not, ◌&&◌, ◌||◌, eqb}
use Prim.Native.Char.{code}
use Rattle.machine.specs.Limits.{most_inputs}
use Rattle.machine.specs.Couples.{input as input_of}

-- what joins parts: or, and
pub data Join : Type 0 where
  or and : Join

-- the levels: `!` binds closest, then `.`, then `+`
pub data Level : Type 0 where
  factor : Level
  joined : Join → Level

-- a condition is one or more terms joined by `+` (or); a term is one or more factors joined by `.` (and)
abbrev pub condition : Level
condition = joined or

abbrev pub term : Level
term = joined and

-- what is joined, and by which character
abbrev pub part : Join → Level
part or = term
part and = factor

abbrev pub byte : Join → ℕ
byte or = code "+"
byte and = code "."

-- one part, or a part and more; a factor is `!` and a factor, or a condition in parentheses, or `0`, `1`, or an input letter
pub data Tree : Level → Type 0 where
  one : {j : Join} → Tree (part j) → Tree (joined j)
  more : {j : Join} → Tree (part j) → Tree (joined j) → Tree (joined j)
  bang : Tree factor → Tree factor
  paren : Tree condition → Tree factor
  off on : Tree factor
  input : ℕ → Tree factor

-- the text of a tree, with no blanks
unfoldable pub text : {l : Level} → Tree l → List ℕ
text (one t) = text t
text (more {j} t u) = text t ++ byte j ∷ text u
text (bang t) = code "!" ∷ text t
text (paren t) = code "(" ∷ text t ++ code ")" ∷ []
text off = code "0" ∷ []
text on = code "1" ∷ []
text (input k) = (code "a" + k) ∷ []

-- the most parentheses open at any place
unfoldable pub opened : {l : Level} → Tree l → ℕ
opened (one t) = opened t
opened (more t u) = max (opened t) (opened u)
opened (bang t) = opened t
opened (paren t) = suc (opened t)
opened off = 0
opened on = 0
opened (input k) = 0

-- each input letter is below n, and one of a to h
unfoldable pub Below : {l : Level} → ℕ → Tree l → Type 0
Below n (one t) = Below n t
Below n (more t u) = Below n t × Below n u
Below n (bang t) = Below n t
Below n (paren t) = Below n t
Below n off = Unit
Below n on = Unit
Below n (input k) = (k < n) × (k < most_inputs)

-- what a join says of what its two sides say
abbrev pub joins : Join → Bool → Bool → Bool
joins or a b = a || b
joins and a b = a && b

-- what a tree says at the setting v; an input letter says that its input is on
unfoldable pub holds : {l : Level} → ℕ → Tree l → Bool
holds v (one t) = holds v t
holds v (more {j} t u) = joins j (holds v t) (holds v u)
holds v (bang t) = not (holds v t)
holds v (paren t) = holds v t
holds v off = false
holds v on = true
holds v (input k) = eqb (input_of v k) 1
