-- What private functions require and answer.
use Rattle.std.specs.Prelude.{◌≡◌, cond, List, ◌∷◌, ◌++◌, ℕ, ◌+◌, ◌-◌, ◌≤◌, ◌<◌, length, get_or, ltb}
use Rattle.verdict.specs.Checks.{Check, check, Judged, Passed}
use Rattle.verdict.specs.Buffers.{Left}
use Rattle.verdict.specs.declared.Answer.{Answer}
use Rattle.sets.specs.Sets.{words, SetOf}
use Rattle.machine.specs.Couples.{Couple}
use Rattle.machine.specs.Moves.{table_moves, Stateless, Transient}
use Rattle.machine.specs.Runs.{Machine, size}
use Rattle.tables.specs.Tables.{state_checks}
use Rattle.specification.specs.Limits.{most_bytes, blank_move, blank_word}
use Rattle.specification.specs.File.{count_of, kind_of, kinds, starts_kind, Has, WellFormed}
use Rattle.specification.specs.Records.{word, source, target, text_length, settings, couples, records, record_at, Ranges}
use Rattle.specification.specs.Rules.{text_at, rule_of, Fires, MoveAt, HoldsIn}
use Rattle.specification.specs.Reading.{record_checks, rule_checks, move_checks}
use Rattle.specification.specs.declared.records.Sizes.{Sizes}
use Rattle.evolutions.specs.declared.Evolution.{Evolution}

-- so many entries at most: their kinds rise from 1 to 6
abbrev pub most_kinds : ℕ
most_kinds = starts_kind

-- the kind of entry k is as it should be, by itself and the one before
pub record KindFits (file : List ℕ) (k : ℕ) : Type 0 where
  pub always : k < kinds → kind_of file k ≡ k + 1
  pub rising : kinds ≤ k → kind_of file (k - 1) < kind_of file k
  pub known : kind_of file k ≤ starts_kind

-- what the records of a file need: they lie in it, by sizes that are in their ranges
pub record Inside (file : List ℕ) (z : Sizes) : Type 0 where
  pub ranges : Ranges z
  pub within : record_at z (records z) ≤ length file
  pub few : length file ≤ most_bytes

-- what a file that passes 1 and 2 has: the texts of its records lie in it
pub record Laid (file : List ℕ) (z : Sizes) : Type 0 where
  pub formed : WellFormed file
  pub ranges : Ranges z
  pub counted : z.more ≡ count_of file - kinds
  pub worded : z.worded ≤ z.states
  pub texts : text_at file z (records z) ≤ length file
  pub few : length file ≤ most_bytes

-- and where each text begins, and the last one ends
pub record Placed (file : List ℕ) (z : Sizes) (places : List ℕ) : Type 0 where
  pub laid : Laid file z
  pub at : (r : ℕ) → r ≤ records z → get_or places r 0 ≡ text_at file z r

-- the set by the body of a kind: the settings at which it holds, or another set where there is no such body
pub data SetIn (file : List ℕ) (z : Sizes) (kind : ℕ) (otherwise set : List ℕ) : Type 0 where
  there : Has file kind → SetOf words (settings z) (HoldsIn file z kind) set → SetIn file z kind otherwise set
  without : (Has file kind → ⊥) → set ≡ otherwise → SetIn file z kind otherwise set

-- n is the next rule, after record r, of the state that r is a rule of; the number of records where there is none
pub record Follows (file : List ℕ) (z : Sizes) (r n : ℕ) : Type 0 where
  pub after : r < n
  pub upto : n ≤ records z
  pub same : n < records z → rule_of file z n ≡ rule_of file z r
  pub between : (q : ℕ) → q < n → r < q → rule_of file z q ≡ rule_of file z r → ⊥

pub record Linked (file : List ℕ) (z : Sizes) (next : List ℕ) : Type 0 where
  pub at : (r : ℕ) → r < records z → Follows file z r (get_or next r 0)

-- the first rule of the state s that has a condition, as the records from `worded` on have
abbrev pub first_rule : List ℕ → ℕ → ℕ → ℕ
first_rule next worded s = cond (ltb s worded) (get_or next s 0) s

-- what stands for the state s where none of its rules that have a condition holds: s itself if it has no rest condition, or the blank
abbrev pub rest_of : ℕ → ℕ → ℕ
rest_of worded s = cond (ltb s worded) s blank_move

-- x stands for the couple p: the move, or the blank where no rule holds
pub record Noted (file : List ℕ) (z : Sizes) (m p x : ℕ) : Type 0 where
  pub none : x ≡ blank_move → (s v : ℕ) → Couple z.states m s v p → (r : ℕ) → Fires file z s v r → ⊥
  pub some : (x ≡ blank_move → ⊥) → MoveAt file z m p x

-- 9 to 13 of a filled table, whose blanks are no states, and the output words of its states
abbrev pub filled_checks : Machine → List ℕ → List Check
filled_checks m words =
    check 9 (Stateless m.table m.states (size m))
    ∷ check 10 (Transient (table_moves m.table (size m)) m.states (size m))
    ∷ state_checks m words

-- 4 to 13, and what they answer and leave
abbrev pub sound_checks : List ℕ → Sizes → List Check
sound_checks file z = record_checks file z ++ rule_checks file z ++ move_checks file z

pub record SoundAs (file : List ℕ) (z : Sizes) (table₀ words₀ : List ℕ) (a : Answer) (table₁ words₁ : List ℕ) : Type 0 where
  pub judged : Judged (sound_checks file z) Passed a
  pub table : Left a.number (couples z) blank_move (MoveAt file z (settings z)) table₀ table₁
  pub words : Left a.number z.states blank_word (λ s w. w ≡ word file z s) words₀ words₁

-- the evolution with record r, its text at `at`
abbrev pub evolution_at : List ℕ → Sizes → ℕ → ℕ → Evolution
evolution_at file z r at = record { source = source file z r; target = target file z r; at = at; length = text_length file z r }
