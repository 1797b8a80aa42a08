-- The text that the program prints for a file (document 01, "Examples on both sides"; document 02, tickets 4 and 6). Assumes nothing: these
-- are definitions.
use Rattle.std.specs.Prelude.{◌≡◌, true, List, ℕ, ◌+◌, ◌*◌, ◌≤◌, length, Ok}
use Rattle.verdict.specs.Checks.{Passed, Judged}
use Rattle.verdict.specs.declared.Answer.{Answer}
use Rattle.machine.specs.Limits.{most_states, most_couples}
use Rattle.machine.specs.Runs.{Machine, machine_by, RanksOf}
use Rattle.machine.specs.declared.Frame.{Frame}
use Rattle.several.specs.Several.{singly}
use Rattle.specification.specs.Limits.{most_evolutions}
use Rattle.specification.specs.Records.{sizes_of}
use Rattle.specification.specs.Rules.{TableOf, FrameOf}
use Rattle.specification.specs.Reading.{file_checks, CharacterFor}
use Rattle.plan.specs.Planning.{PlanBytes, ShortOf}
use Rattle.plan.specs.Multi.{ListBytes}
use Rattle.show.specs.Sheet.{sheet_text, refusal_text}
use Rattle.show.specs.Written.{Writes}

-- the program's plan buffer has 65,536 bytes
abbrev pub plan_room : ℕ
plan_room = 65536

-- and its buffer for the list apart from the plan as many
abbrev pub list_room : ℕ
list_room = 65536

-- reading the file answers a, with room for every table, list of words and list of records
abbrev pub Answers : List ℕ → Answer → Type 0
Answers file a = Judged (file_checks file most_couples most_states most_evolutions) Passed a

-- success
abbrev pub accepted : Answer
accepted = record { number = 0; place = 0 }

-- What is printed for a machine whose changes may alter several inputs: the sheet, with ranks and plan of single changes and the list
-- apart from that plan; a plan longer than the plan buffer prints refusal 16, and where the plan fits so does a list longer than its own.
pub data PlanText (m : Machine) : List ℕ → Type 0 where
  sheet : {ranks bytes list : List ℕ} → RanksOf (singly m) ranks → PlanBytes (singly m) bytes → length bytes ≤ plan_room
      → ListBytes m list → length list ≤ list_room → PlanText m (sheet_text m.inputs m.states ranks bytes list)
  long : {needed : ℕ} → ShortOf (PlanBytes (singly m)) plan_room needed → PlanText m (refusal_text 16 needed 0)
  long_list : {bytes : List ℕ} {needed : ℕ} → PlanBytes (singly m) bytes → length bytes ≤ plan_room
      → ShortOf (ListBytes m) list_room needed → PlanText m (refusal_text 16 needed 0)

-- what is printed for a file: the line of its refusal, with its character; where it reads, the text of its machine
pub data SheetOf (file : List ℕ) : List ℕ → Type 0 where
  refused : {a : Answer} {k : ℕ} → Answers file a → CharacterFor file (sizes_of file) a k → (a.number ≡ 0 → ⊥) → SheetOf file (refusal_text a.number a.place k)
  read : {f : Frame} {table text : List ℕ} → Answers file accepted → FrameOf file (sizes_of file) f → TableOf file table → PlanText (machine_by true f table) text → SheetOf file text

-- room for every text: the first line, a line for each rank, at most 5 letters for each byte of the plan and 4 for each of the list
abbrev pub text_room : ℕ
text_room = 46 + 17 * most_couples + 5 * plan_room + 4 * list_room

-- a text of which Is holds stands whole at the front of a buffer, n bytes
pub record Prints (Is : List ℕ → Type 0) (n : ℕ) (before after : List ℕ) : Type 0 where
  pub text : List ℕ
  pub is : Is text
  pub writes : Writes text (Ok n) before after
