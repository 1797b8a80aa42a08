-- The refusals by number and place (document 01, "Refusals by number"; document 02), and the answer that a job's result is to C.
-- Assumes nothing: these are definitions.
use Rattle.std.specs.Prelude.{ℕ, Result, Ok, Err}
use Rattle.verdict.specs.declared.Answer.{Answer}
use Rattle.verdict.specs.declared.Refusal.{Refusal}
use Rattle.verdict.specs.declared.Refusal.TheVariants.{Malformed, WrongSize, ShortBuffer, Beyond, Unread, OwnSource, Repeated, TwoRules, NoRule, Transient, SameWord, Unreached, NoStart, NoCouple, Unmarked, ShortRun, NoRun, UnsoundLog, NoPlan, Unvisited}

-- its row in the table of refusals
abbrev pub number_of : Refusal → ℕ
number_of Malformed = 1
number_of WrongSize = 2
number_of (ShortBuffer _) = 3
number_of (Beyond _) = 4
number_of (Unread _) = 5
number_of (OwnSource _) = 6
number_of (Repeated _) = 7
number_of (TwoRules _) = 8
number_of (NoRule _) = 9
number_of (Transient _) = 10
number_of (SameWord _) = 11
number_of (Unreached _) = 12
number_of NoStart = 13
number_of NoCouple = 14
number_of Unmarked = 15
number_of (ShortRun _) = 16
number_of (NoRun _) = 17
number_of UnsoundLog = 18
number_of (NoPlan _) = 19
number_of Unvisited = 20

-- its place in that row's words
abbrev pub place_of : Refusal → ℕ
place_of Malformed = 0
place_of WrongSize = 0
place_of (ShortBuffer needed) = needed
place_of (Beyond place) = place
place_of (Unread record_number) = record_number
place_of (OwnSource place) = place
place_of (Repeated place) = place
place_of (TwoRules couple) = couple
place_of (NoRule couple) = couple
place_of (Transient couple) = couple
place_of (SameWord state) = state
place_of (Unreached state) = state
place_of NoStart = 0
place_of NoCouple = 0
place_of Unmarked = 0
place_of (ShortRun needed) = needed
place_of (NoRun index) = index
place_of UnsoundLog = 0
place_of (NoPlan byte) = byte
place_of Unvisited = 0

abbrev pub refused_by : Refusal → Answer
refused_by r = record { number = number_of r; place = place_of r }

-- of a job that writes so many elements
abbrev pub answer_of : Result ℕ Refusal → Answer
answer_of (Ok written) = record { number = 0; place = written }
answer_of (Err r) = refused_by r

-- of a job that writes nothing that is counted
abbrev pub verdict_of : {T : Type 0} → Result T Refusal → Answer
verdict_of (Ok _) = record { number = 0; place = 0 }
verdict_of (Err r) = refused_by r
