-- Each public function has one outcome: two answers and buffers that keep its promise for one input are equal.
-- Both are computed from the text and the buffer lent.
use mathlib.Core.Path.{◌≡◌, sym, ◌∙◌}
use mathlib.Core.List.{List}
use Prim.Native.Nat.{ℕ}
use Rattle.std.specs.Prelude.{Result}
use Rattle.show.specs.declared.Short.{Short}
use Rattle.show.specs.Sheet.{sheet_text, refusal_text}
use Rattle.show.specs.Written.{Writes}

pub record Same (r r' : Result ℕ Short) (b b' : List ℕ) : Type 0 where
  pub answer : r ≡ r'
  pub buffer : b ≡ b'

writes_only : (text before : List ℕ) {r r' : Result ℕ Short} {b b' : List ℕ} → Writes text r before b → Writes text r' before b' → Same r r' b b'
writes_only text before w w' = record { answer = w.answered ∙ sym w'.answered; buffer = w.bytes ∙ sym w'.bytes }

pub sheet_only : (inputs states : ℕ) (ranks plan list before : List ℕ) {r r' : Result ℕ Short} {b b' : List ℕ}
    → Writes (sheet_text inputs states ranks plan list) r before b → Writes (sheet_text inputs states ranks plan list) r' before b' → Same r r' b b'
sheet_only inputs states ranks plan list before = writes_only (sheet_text inputs states ranks plan list) before

pub refusal_only : (number place character : ℕ) (before : List ℕ) {r r' : Result ℕ Short} {b b' : List ℕ}
    → Writes (refusal_text number place character) r before b → Writes (refusal_text number place character) r' before b' → Same r r' b b'
refusal_only number place character before = writes_only (refusal_text number place character) before
