-- A file without rest conditions, written as one with them (document 02, ticket 8): each the negated sum of the conditions of that
-- state's evolutions. Assumes nothing: these are definitions.
use Rattle.std.specs.Prelude.{◌≡◌, true, cond, List, [], ◌∷◌, ◌++◌, ℕ, zero, suc, ◌+◌, ◌/◌, ◌%◌, ◌≤◌, ◌<◌, ◌^◌, length, get_or, drop, eqb}
use Prim.Native.Char.{code}
use Rattle.verdict.specs.Below.{sum_to, join_to}
use Rattle.condition.specs.Grammar.{condition, Tree, text, opened}
use Rattle.condition.specs.Condition.{parentheses}
use Rattle.specification.specs.Limits.{most_bytes, most_text}
use Rattle.specification.specs.File.{mark, count_of, kind_of, offset_of, length_of, start_of, body_of}
use Rattle.specification.specs.Records.{sizes_of, couples, word, source}
use Rattle.specification.specs.Rules.{text_of}
use Rattle.specification.specs.declared.Contents.{Contents}
use Rattle.specification.specs.declared.records.Sizes.{Sizes}

-- texts joined by `+`
abbrev pub summed : List ℕ → List (List ℕ) → List ℕ
summed t [] = t
summed t (u ∷ us) = t ++ code "+" ∷ summed u us

-- the negated sum of conditions, `1` where there are none
abbrev pub negated : List (List ℕ) → List ℕ
negated [] = code "1" ∷ []
negated (t ∷ ts) = code "!" ∷ code "(" ∷ summed t ts ++ code ")" ∷ []

-- the conditions of those of the first k evolutions that are from s
unfoldable pub conditions_from : List ℕ → Sizes → ℕ → ℕ → List (List ℕ)
conditions_from file z s zero = []
conditions_from file z s (suc k) =
    conditions_from file z s k ++ cond (eqb (source file z (z.states + k)) s) (text_of file z (z.states + k) ∷ []) []

-- the rest condition of the state s
abbrev pub rest_text : List ℕ → Sizes → ℕ → List ℕ
rest_text file z s = negated (conditions_from file z s z.evolutions)

abbrev pub rest_texts : List ℕ → List ℕ
rest_texts file = join_to (rest_text file (sizes_of file)) (sizes_of file).states

-- the rest conditions stand at the front of kind 4, entry 3, which grows by them; each body moves by what those before it grew
abbrev pub grown : List ℕ → ℕ → ℕ
grown file k = cond (eqb k 3) (length (rest_texts file)) 0

-- a number as two bytes, low byte first
abbrev pub two_bytes : ℕ → List ℕ
two_bytes n = n % 256 ∷ n / 256 ∷ []

-- entry k of the contents: kind, offset and length
abbrev pub entry_bytes : List ℕ → ℕ → List ℕ
entry_bytes file k = kind_of file k ∷ two_bytes (offset_of file k + sum_to (grown file) k) ++ two_bytes (length_of file k + grown file k)

-- the record of the state s: its output word, the length of its rest condition
abbrev pub state_bytes : List ℕ → Sizes → ℕ → List ℕ
state_bytes file z s = two_bytes (word file z s) ++ length (rest_text file z s) ∷ []

abbrev pub state_records : List ℕ → List ℕ
state_records file = join_to (state_bytes file (sizes_of file)) (sizes_of file).states

-- the file with rest conditions: the mark, the count, the contents; kind 1, kind 2 with the lengths, kind 3; the rest conditions, then
-- kind 4 and all behind it as it was
unfoldable pub with_rests : List ℕ → List ℕ
with_rests file =
    mark true ++ (count_of file ∷ join_to (entry_bytes file) (count_of file)
    ++ (body_of file 0 ++ (state_records file ++ (body_of file 2 ++ (rest_texts file ++ drop (start_of file 3) file)))))

-- the rest condition of the state s opens at most 8 parentheses, by every tree that has its text
abbrev pub Nested : List ℕ → Sizes → ℕ → Type 0
Nested file z s = (t : Tree condition) → text t ≡ rest_text file z s → opened t ≤ parentheses

-- its rest conditions are within the limits of a condition, and it is within that of a file
pub record Fits (file : List ℕ) : Type 0 where
  pub short : (s : ℕ) → s < (sizes_of file).states → length (rest_text file (sizes_of file) s) ≤ most_text
  pub nested : (s : ℕ) → s < (sizes_of file).states → Nested file (sizes_of file) s
  pub few : length (with_rests file) ≤ most_bytes

-- each element is a byte
abbrev pub Bytes : List ℕ → Type 0
Bytes [] = Unit {0}
Bytes (x ∷ xs) = (x < 2 ^ 8) × Bytes xs

-- two files are read alike: the same answer, sizes and sets, and the same table and words where they are needed
pub record Alike (file : List ℕ) (r r' : Contents) (table table' words words' : List ℕ) : Type 0 where
  pub contents : r' ≡ r
  pub moves : (p : ℕ) → p < couples (sizes_of file) → get_or table' p 0 ≡ get_or table p 0
  pub outputs : (s : ℕ) → s < (sizes_of file).states → get_or words' s 0 ≡ get_or words s 0
