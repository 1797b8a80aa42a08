-- A text in a lent buffer: what stands there, and what the writer answers. Assumes nothing.
use Rattle.std.specs.Prelude.{◌≡◌, cond, List, [], ◌∷◌, ℕ, length, leb, Result, Ok, Err}
use Rattle.show.specs.declared.Short.{Short}

-- a text over the front of a buffer, as far as the buffer reaches; behind the text the buffer is as it was
abbrev pub over : List ℕ → List ℕ → List ℕ
over [] out = out
over (x ∷ text) [] = []
over (x ∷ text) (y ∷ out) = x ∷ over text out

-- the answer: how many bytes the text has where all of it fits, else that the buffer is short
abbrev pub written : List ℕ → List ℕ → Result ℕ Short
written text out = cond (leb (length text) (length out)) (Ok (length text)) (Err (record {}))

-- what writing a text into a lent buffer answers and leaves there
pub record Writes (text : List ℕ) (answer : Result ℕ Short) (before after : List ℕ) : Type 0 where
  pub answered : answer ≡ written text before
  pub bytes : after ≡ over text before
