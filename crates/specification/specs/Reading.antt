-- Reading a file: its checks in their order, and what it leaves (document 01, "Refusals by number"; document 02, tickets 4 and 8). Assumes
-- nothing: these are definitions.
use Rattle.std.specs.Prelude.{◌≡◌, List, [], ◌∷◌, ◌++◌, ℕ, length, replicate}
use Rattle.sets.specs.Sets.{words}
use Rattle.verdict.specs.Checks.{Check, check, Unless, Short, Passed, Judged}
use Rattle.verdict.specs.Buffers.{Left}
use Rattle.verdict.specs.declared.Answer.{Answer}
use Rattle.condition.specs.Condition.{CharacterOf}
use Rattle.evolutions.specs.declared.Evolution.{Evolution}
use Rattle.machine.specs.Moves.{Transient, SameWord, Unreached, Start}
use Rattle.specification.specs.Limits.{blank_move, blank_word}
use Rattle.specification.specs.File.{WellFormed}
use Rattle.specification.specs.Records.{sizes_of, settings, couples, word, Sized, Beyond, Own, Twice}
use Rattle.specification.specs.Rules.{condition_of, Unreads, TwoRules, NoRule, Moves, MoveAt, MayStart, FrameOf}
use Rattle.specification.specs.Evolutions.{Handed}
use Rattle.specification.specs.declared.Contents.{Contents}
use Rattle.specification.specs.declared.records.Sizes.{Sizes}

-- 1 to 3: the file's shape, its sizes, and room for so many table bytes, words and records
abbrev pub shape_checks : List ℕ → ℕ → ℕ → ℕ → List Check
shape_checks file tableRoom wordRoom recordRoom =
    let z = sizes_of file in
    -- file too long or too short, mark, count, kinds, offsets or end wrong; kind 1 not 4 bytes; kind 2 or 3 not a multiple of 3
    check 1 (Unless (WellFormed file))
    -- a size outside its range; initial not below S; kind 2 not 3 × S bytes; over 992 evolutions; condition lengths not summing to kind 4;
    -- kind 5 or 6 over 255 bytes; a non-zero state length in a file without rest conditions
    ∷ check 2 (Unless (Sized file))
    -- a table, word or record buffer too short, the first short one in that order
    ∷ check 3 (Short (couples z) tableRoom)
    ∷ check 3 (Short z.states wordRoom)
    ∷ check 3 (Short z.evolutions recordRoom)
    ∷ []

-- 4 to 7: its records
abbrev pub record_checks : List ℕ → Sizes → List Check
record_checks file z =
    -- output bit beyond the outputs; state not below S in a record
    check 4 (Beyond file z)
    -- condition does not read, those of kinds 5 and 6 after those of the records; rest conditions only where there are any
    ∷ check 5 (Unreads file z)
    -- evolution to its own source
    ∷ check 6 (Own file z)
    -- same source and target as an earlier evolution
    ∷ check 7 (Twice file z)
    ∷ []

-- 8: its rules
abbrev pub rule_checks : List ℕ → Sizes → List Check
rule_checks file z =
    -- two rules hold
    check 8 (TwoRules file z (settings z)) ∷ []

-- 9 to 13: its moves
abbrev pub move_checks : List ℕ → Sizes → List Check
move_checks file z =
    -- no rule holds
    check 9 (NoRule file z (settings z))
    -- transient
    ∷ check 10 (Transient (Moves file z) z.states (settings z))
    -- output word of an earlier state
    ∷ check 11 (SameWord (word file z) z.states)
    -- state never reached
    ∷ check 12 (Unreached (Moves file z) z.states (settings z) z.initial)
    -- no start
    ∷ check 13 (Unless ((v : ℕ) × Start (Moves file z) (MayStart file z) (settings z) z.initial v))
    ∷ []

-- the checks of a file, in their order
abbrev pub file_checks : List ℕ → ℕ → ℕ → ℕ → List Check
file_checks file tableRoom wordRoom recordRoom =
    let z = sizes_of file in
    shape_checks file tableRoom wordRoom recordRoom ++ record_checks file z ++ rule_checks file z ++ move_checks file z

-- the character with the answer a: with 5 that of the condition at its place, zero with every other
pub record CharacterFor (file : List ℕ) (z : Sizes) (a : Answer) (k : ℕ) : Type 0 where
  pub unread : a.number ≡ 5 → CharacterOf z.inputs (condition_of file z a.place) k
  pub other : (a.number ≡ 5 → ⊥) → k ≡ 0

-- a refusal: the sizes are all zero, and so are the sets
abbrev pub refusal_of : Answer → ℕ → Contents
refusal_of a k = record { answer = a; character = k; outputs = 0; evolutions = 0; frame = record { inputs = 0; states = 0; initial = 0; never = replicate words 0; starts = replicate words 0 } }

-- success: the sizes of the file, and its frame
pub record ContentsOf (file : List ℕ) (z : Sizes) (r : Contents) : Type 0 where
  pub outputs : r.outputs ≡ z.outputs
  pub evolutions : r.evolutions ≡ z.evolutions
  pub frame : FrameOf file z r.frame

-- Reading a file at room for so many records: the verdict, the character, the sizes, the table and the words.
pub record ReadHere (file table₀ words₀ : List ℕ) (room : ℕ) (r : Contents) (table₁ words₁ : List ℕ) : Type 0 where
  pub verdict : Judged (file_checks file (length table₀) (length words₀) room) Passed r.answer
  pub character : CharacterFor file (sizes_of file) r.answer r.character
  pub refused : (r.answer.number ≡ 0 → ⊥) → r ≡ refusal_of r.answer r.character
  pub done : r.answer.number ≡ 0 → ContentsOf file (sizes_of file) r
  pub table : Left r.answer.number (couples (sizes_of file)) blank_move (MoveAt file (sizes_of file) (settings (sizes_of file))) table₀ table₁
  pub words : Left r.answer.number (sizes_of file).states blank_word (λ s w. w ≡ word file (sizes_of file) s) words₀ words₁

-- Reading a file into lent records: the same, and the records.
pub record ReadAs (file table₀ words₀ : List ℕ) (records₀ : List Evolution) (r : Contents) (table₁ words₁ : List ℕ) (records₁ : List Evolution) : Type 0 where
  pub here : ReadHere file table₀ words₀ (length records₀) r table₁ words₁
  pub records : Handed r.answer.number file (sizes_of file) records₀ records₁
