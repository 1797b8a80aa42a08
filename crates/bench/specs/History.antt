-- A log over its history (documents 01 and 02): what any list of updates makes of a fresh log.
use Rattle.std.specs.Prelude.{◌<◌, ◌^◌, ◌≡◌, true, cond, List, [], ◌∷◌, ◌++◌, ltb, eqb, length, take, drop, replicate}
use Rattle.basics.specs.Words.{most_outputs}
use Rattle.verdict.specs.Below.{list_to}
use Rattle.bench.specs.declared.Reading.{Reading}
use Rattle.bench.specs.declared.Log.{Log}
use Rattle.bench.specs.Readings.{differs, those, times}
use Rattle.bench.specs.Log.{most_entries, most_readings, blank, sound, refuses, equal, stored, full, refused, update_of}

-- a fresh log, all zero
abbrev pub fresh_log : Log
fresh_log = record { readings = 0; differing = 0; kept = 0; entries = replicate most_entries blank; outputs = replicate most_outputs 0 }

-- the log after these updates
abbrev pub after : Log → List Reading → Log
after l [] = l
after l (r ∷ rs) = after (update_of l r).log rs

-- those of the updates that are accepted
abbrev pub accepted : Log → List Reading → List Reading
accepted l [] = []
accepted l (r ∷ rs) = cond (refuses l) (accepted (update_of l r).log rs) (r ∷ accepted (update_of l r).log rs)

-- both words of a reading have 16 outputs, and so in each of these
pub record Fits (r : Reading) : Type 0 where
  pub expected : r.expected < 2 ^ most_outputs
  pub seen : r.seen < 2 ^ most_outputs

abbrev pub AllFit : List Reading → Type 0
AllFit [] = Unit {0}
AllFit (r ∷ rs) = Fits r × AllFit rs

-- the first 32 of those whose words differed, in order
abbrev pub first_of : List Reading → List Reading
first_of rs = take most_entries (those differs rs)

-- the history of a log: of these updates from a fresh log these were accepted, and left the log l
pub record History (updates taken : List Reading) (l : Log) : Type 0 where
  -- the accepted updates are the first 4,294,967,295
  pub first : taken ≡ take most_readings updates
  -- readings is the number of accepted updates
  pub readings : l.readings ≡ length taken
  -- differing the number of those whose words differed
  pub differing : l.differing ≡ length (those differs taken)
  -- and the entries are the first 32 of these in order, with their words; the others are as in a fresh log
  pub kept : l.kept ≡ length (first_of taken)
  pub entries : l.entries ≡ first_of taken ++ drop (length (first_of taken)) fresh_log.entries
  -- each output's count is the number of accepted updates in which that output of the two words differed
  pub outputs : l.outputs ≡ list_to (times taken) most_outputs
  -- the log is sound
  pub soundness : sound l ≡ true
  -- the next reading is refused exactly where 4,294,967,295 were accepted
  pub number : (r : Reading) → (update_of l r).number ≡ cond (eqb (length taken) most_readings) 18 0
  -- else it answers equal where its words are equal, stored up to the 32nd difference, and full from the 33rd on
  pub kind : (r : Reading) → (update_of l r).kind ≡ cond (eqb (length taken) most_readings) refused (cond (differs r) (cond (ltb (length (those differs taken)) most_entries) stored full) equal)
