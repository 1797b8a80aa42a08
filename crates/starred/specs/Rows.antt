-- Document 01's starred rows ("Examples on both sides"), in its order, and document 02's of ticket 5, as one table. Assumes nothing:
-- these are definitions.
use Rattle.std.specs.Prelude.{Ok, ◌≡◌, true, false, List, [], ◌∷◌, ℕ, ◌-◌, ◌^◌, ◌≤◌, get_or, replicate}
use Rattle.basics.specs.Texts.{letters}
use Rattle.verdict.specs.Checks.{Passed, Judged}
use Rattle.condition.specs.Condition.{Says}
use Rattle.sets.specs.Sets.{words}
use Rattle.machine.specs.declared.Frame.{Frame}
use Rattle.machine.specs.Runs.{Machine, machine_of, couples, RanksOf}
use Rattle.machine.specs.Shortest.{RunTo}
use Rattle.specification.specs.Records.{sizes_of, couples as couplesOf}
use Rattle.specification.specs.Rules.{TableOf, FrameOf}
use Rattle.specification.specs.Reading.{file_checks}
use Rattle.plan.specs.Planning.{PlanBytes, run_checks, RunDone}
use Rattle.starred.specs.Files.{lamp_file, two_rules_file, gate_file, closed_gate_file}

-- reading a file answers so, wherever there is room for its table, words and records
abbrev pub Answered : List ℕ → ℕ → ℕ → Type 0
Answered file number place =
    (table words records : ℕ) → couplesOf (sizes_of file) ≤ table → (sizes_of file).states ≤ words → (sizes_of file).evolutions ≤ records
    → Judged (file_checks file table words records) Passed (record { number = number; place = place })

-- the run to a couple is refused so, wherever there is room for the ranks
abbrev pub RunRefused : Machine → ℕ → ℕ → ℕ → Type 0
RunRefused m c number place =
    (ranks run : ℕ) → couples m ≤ ranks → Judged (run_checks m c ranks run) (RunDone m c) (record { number = number; place = place })

-- the lamp and the gate, by their tables
unfoldable pub lamp_table : List ℕ
lamp_table = 0 ∷ 1 ∷ 0 ∷ 1 ∷ []

unfoldable pub gate_table : List ℕ
gate_table =
    1 ∷ 2 ∷ 2 ∷ 2 ∷ 1 ∷ 0 ∷ 0 ∷ 0 ∷ 0 ∷ 0 ∷ 2 ∷ 2 ∷ 0 ∷ 0 ∷ 0 ∷ 0
    ∷ 1 ∷ 2 ∷ 2 ∷ 2 ∷ 1 ∷ 0 ∷ 0 ∷ 0 ∷ 0 ∷ 0 ∷ 2 ∷ 2 ∷ 0 ∷ 0 ∷ 0 ∷ 0
    ∷ 2 ∷ 2 ∷ 2 ∷ 2 ∷ 1 ∷ 0 ∷ 0 ∷ 0 ∷ 2 ∷ 2 ∷ 2 ∷ 2 ∷ 0 ∷ 0 ∷ 0 ∷ 0 ∷ []

-- a frame that rules no setting out, its starts among the first 64 settings
abbrev pub free : ℕ → ℕ → ℕ → ℕ → Frame
free inputs states initial starts = record { inputs = inputs; states = states; initial = initial; never = replicate words 0; starts = starts ∷ replicate (words - 1) 0 }

-- the lamp starts at setting 0, the gate at any of its 16
abbrev pub lamp_frame : Frame
lamp_frame = free 1 2 0 1

abbrev pub gate_frame : Frame
gate_frame = free 4 3 0 (2 ^ 16 - 1)

abbrev pub lamp : Machine
lamp = machine_of lamp_frame lamp_table

abbrev pub gate : Machine
gate = machine_of gate_frame gate_table

-- a row to a field
pub record Rows : Type 0 where
  -- lamp table: 0 1 0 1
  pub lamp_table_lem : Answered lamp_file 0 0 × TableOf lamp_file lamp_table × FrameOf lamp_file (sizes_of lamp_file) lamp_frame
  -- lamp ranks: 0 1 2 1
  pub lamp_ranks_lem : RanksOf lamp (0 ∷ 1 ∷ 2 ∷ 1 ∷ [])
  -- lamp plan: 1 0 0, 2 0 0 1, 3 0 0 1 0 (12 bytes)
  pub lamp_plan_lem : PlanBytes lamp (1 ∷ 0 ∷ 0 ∷ 2 ∷ 0 ∷ 0 ∷ 1 ∷ 3 ∷ 0 ∷ 0 ∷ 1 ∷ 0 ∷ [])
  -- gate, couple 4, 17, 44: moves 1, 2, 0
  pub gate_moves : Answered gate_file 0 0 × TableOf gate_file gate_table × FrameOf gate_file (sizes_of gate_file) gate_frame × (get_or gate_table 4 0 ≡ 1) × (get_or gate_table 17 0 ≡ 2) × (get_or gate_table 44 0 ≡ 0)
  -- gate, run to 44: 8 10 8 12
  pub gate_run : RunTo gate 44 (8 ∷ 10 ∷ 8 ∷ 12 ∷ [])
  -- gate, couple 19: 15
  pub gate_unmarked : RunRefused gate 19 15 0
  -- `a+b.c` at setting 1 (only a on): holds
  pub and_before_or : Says 3 1 (letters "a+b.c") (Ok true)
  -- `!a.b` at setting 0: does not hold
  pub not_before_and : Says 2 0 (letters "!a.b") (Ok false)
  -- lamp with `1` as the rest of state 0: 8, place 1
  pub two_rules : Answered two_rules_file 8 1
  -- the gate without kind 6: 13
  pub closed_gate : Answered closed_gate_file 13 0
