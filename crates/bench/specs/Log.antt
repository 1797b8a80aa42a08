-- The bench log (documents 01 and 02): what a reading answers, what an update makes of the log, and when it is refused.
-- A log has readings, differing readings, entries kept, the first 32 differences, and for each output the readings in which it differed.
use Rattle.std.specs.Prelude.{ℕ, ◌+◌, min, Bool, true, false, cond, not, ◌&&◌, ◌||◌, List, ltb, leb, eqb, get_or, take, set, Result, Ok, Err}
use Rattle.basics.specs.Words.{most_outputs}
use Rattle.verdict.specs.declared.Refusal.{Refusal}
use Rattle.verdict.specs.Below.{every, sum_to, list_to}
use Rattle.verdict.specs.Refusals.{verdict_of}
use Rattle.bench.specs.declared.Reading.{Reading}
use Rattle.bench.specs.declared.Log.{Log}
use Rattle.bench.specs.declared.Noted.{Noted}
use Rattle.bench.specs.declared.Noted.TheVariants.{Equal, Stored, Full}
use Rattle.bench.specs.Readings.{differs, differs_in, times, one_if}

-- the first 32 differences are kept, and up to 4,294,967,295 readings counted
abbrev pub most_entries : ℕ
most_entries = 32

abbrev pub most_readings : ℕ
most_readings = 4294967295

-- the entries kept
abbrev pub kept_of : Log → List Reading
kept_of l = take l.kept l.entries

-- an entry of a fresh log
abbrev pub blank : Reading
blank = record { run = 0; change = 0; second = false; expected = 0; seen = 0 }

-- entry i, and the count of output j
abbrev pub entry_at : Log → ℕ → Reading
entry_at l i = get_or l.entries i blank

abbrev pub count_at : Log → ℕ → ℕ
count_at l j = get_or l.outputs j 0

-- a difference is stored while fewer than 32 are kept
abbrev pub stores : Log → Reading → Bool
stores l r = differs r && ltb l.kept most_entries

-- it answers equal, stored, or full; a refused one has a kind of its own
abbrev pub equal : ℕ
equal = 0

abbrev pub stored : ℕ
stored = 1

abbrev pub full : ℕ
full = 2

abbrev pub refused : ℕ
refused = 3

abbrev pub kind_at : Log → Reading → ℕ
kind_at l r = cond (differs r) (cond (stores l r) stored full) equal

-- an update changes only the counts and, for stored, the one new entry, which is the reading as the bench gives it;
-- full still counts it as differing, and each output that differed
abbrev pub noted : Log → Reading → Log
noted l r = record {
  readings = l.readings + 1;
  differing = l.differing + one_if (differs r);
  kept = l.kept + one_if (stores l r);
  entries = cond (stores l r) (set l.entries l.kept r) l.entries;
  outputs = list_to (λ j. count_at l j + one_if (differs_in j r)) most_outputs;
}

-- a log is sound if all of these hold
abbrev pub sound : Log → Bool
sound l =
    -- kept entries = the smaller of 32 and differing
    eqb l.kept (min most_entries l.differing)
    -- differing ≤ readings
    && leb l.differing l.readings
    -- no kept entry has two equal words
    && every l.kept (λ i. differs (entry_at l i))
    -- no output's count is above differing
    && every most_outputs (λ j. leb (count_at l j) l.differing)
    -- the sum of the counts is not below differing
    && leb l.differing (sum_to (count_at l) most_outputs)
    -- with fewer than 33 differences, each count equals that of the kept entries
    && cond (leb l.differing most_entries) (every most_outputs (λ j. eqb (count_at l j) (times (kept_of l) j))) true

-- 18: log not sound, or its readings at 4,294,967,295
abbrev pub refuses : Log → Bool
refuses l = not (sound l) || eqb l.readings most_readings

-- what an update comes to: the number, place and kind of its answer, and the log after it
pub record Outcome : Type 0 where
  pub number : ℕ
  pub place : ℕ
  pub kind : ℕ
  pub log : Log

-- after 18 nothing changes
unfoldable pub update_of : Log → Reading → Outcome
update_of l r = cond (refuses l)
    (record { number = 18; place = 0; kind = refused; log = l })
    (record { number = 0; place = 0; kind = kind_at l r; log = noted l r })

-- document 01's number and place for each answer, and its kind
abbrev pub number_of : Result Noted Refusal → ℕ
number_of a = (verdict_of a).number

abbrev pub place_of : Result Noted Refusal → ℕ
place_of a = (verdict_of a).place

abbrev pub kind_of : Result Noted Refusal → ℕ
kind_of (Ok Equal) = equal
kind_of (Ok Stored) = stored
kind_of (Ok Full) = full
kind_of (Err _) = refused

abbrev pub outcome : Result Noted Refusal → Log → Outcome
outcome a l = record { number = number_of a; place = place_of a; kind = kind_of a; log = l }
