-- Reading a file as document 01 has it, of SEQ1, in which a record holds exactly where its condition does (theorem `holds-by-text`). A file
-- with its four kinds has the same answers but for setting 0 as the only start (theorem `as_before`), and one with a kind 6 of the text `1`
-- has its starts (theorem `runs-bare`). Assumes nothing: these are definitions.
use Rattle.std.specs.Prelude.{◌≡◌, true, List, ◌∷◌, [], ℕ, ◌+◌, ◌*◌, ◌≤◌, ◌<◌, length, take}
use Prim.Native.Char.{code}
use Rattle.condition.specs.Condition.{Reads}
use Rattle.verdict.specs.Checks.{Check, check, Unless, Short}
use Rattle.machine.specs.Moves.{Transient, SameWord, Unreached, Start}
use Rattle.specification.specs.Limits.{most_bytes}
use Rattle.specification.specs.File.{mark, count_of, entry_at, kind_of, offset_of, length_of, start_of, body_of, kinds, starts_kind, EntryOf, Measured}
use Rattle.verdict.specs.Below.{sum_to}
use Rattle.specification.specs.Records.{sizes_of, settings, couples, records, text_length, word, Ranges, Beyond, Own, Twice}
use Rattle.specification.specs.Rules.{text_of, TwoRules, NoRule, Moves}
use Rattle.specification.specs.declared.records.Sizes.{Sizes}

-- refusal 1 does not apply: four entries, kinds 1 to 4, bodies end to end, the last ends with the file
pub record FourKinds (file : List ℕ) : Type 0 where
  pub few : length file ≤ most_bytes
  pub enough : entry_at kinds ≤ length file
  pub marked : take 4 file ≡ mark true
  pub count : count_of file ≡ kinds
  pub kind : (k : ℕ) → k < kinds → kind_of file k ≡ k + 1
  pub offset : (k : ℕ) → k < kinds → offset_of file k ≡ start_of file k
  pub ends : start_of file kinds ≡ length file
  pub measured : Measured file

-- refusal 2 does not apply
pub record FourSized (file : List ℕ) : Type 0 where
  pub ranges : Ranges (sizes_of file)
  pub states : length_of file 1 ≡ 3 * (sizes_of file).states
  pub texts : sum_to (text_length file (sizes_of file)) (records (sizes_of file)) ≡ length_of file 3

-- refusal 5: the condition of record r does not read
pub record RecordUnreads (file : List ℕ) (z : Sizes) (r : ℕ) : Type 0 where
  pub below : r < records z
  pub unread : Reads z.inputs (text_of file z r) → ⊥

-- the checks of a file, in their order; a run may start at setting 0
abbrev pub checks_before : List ℕ → ℕ → ℕ → ℕ → List Check
checks_before file tableRoom wordRoom recordRoom =
    let z = sizes_of file in
    check 1 (Unless (FourKinds file))
    ∷ check 2 (Unless (FourSized file))
    ∷ check 3 (Short (couples z) tableRoom)
    ∷ check 3 (Short z.states wordRoom)
    ∷ check 3 (Short z.evolutions recordRoom)
    ∷ check 4 (Beyond file z)
    ∷ check 5 (RecordUnreads file z)
    ∷ check 6 (Own file z)
    ∷ check 7 (Twice file z)
    ∷ check 8 (TwoRules file z (settings z))
    ∷ check 9 (NoRule file z (settings z))
    ∷ check 10 (Transient (Moves file z) z.states (settings z))
    ∷ check 11 (SameWord (word file z) z.states)
    ∷ check 12 (Unreached (Moves file z) z.states (settings z) z.initial)
    ∷ check 13 (Unless ((v : ℕ) × Start (Moves file z) (λ v. v ≡ 0) (settings z) z.initial v))
    ∷ []

-- every setting is an allowed start: there is a kind 6, and its text is `1`
pub record AnyStart (file : List ℕ) : Type 0 where
  pub entry : ℕ
  pub of : EntryOf file starts_kind entry
  pub text : body_of file entry ≡ code "1" ∷ []
