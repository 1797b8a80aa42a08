-- Expected readings (document 01, "Refusals by number"): their checks in order, and what they leave. Assumes nothing: these are definitions.
use Rattle.std.specs.Prelude.{◌≡◌, List, [], ◌∷◌, ◌++◌, ℕ, ◌*◌, ◌-◌, ◌≤◌, length, get_or}
use Rattle.verdict.specs.Checks.{Check, check, Unless, Short, Judged}
use Rattle.verdict.specs.Buffers.{Written}
use Rattle.verdict.specs.declared.Answer.{Answer}
use Rattle.machine.specs.Limits.{Sized}
use Rattle.machine.specs.Runs.{Machine, couples, Fault}
use Rattle.machine.specs.Boards.{readings, specified}
use Rattle.tables.specs.Tables.{move_checks}

-- a run handed in has at most 65,535 settings
abbrev pub longest_run : ℕ
longest_run = 65535

-- L settings give 2 L - 1 readings, an empty run none
abbrev pub readings_needed : List ℕ → ℕ
readings_needed run = 2 * length run - 1

-- refusal 2 does not apply
pub record SizedRun (m : Machine) (run : List ℕ) : Type 0 where
  pub sizes : Sized m.inputs m.states m.initial
  pub few_settings : length run ≤ longest_run

-- refusals 2 and 3, with so many words and room for so many readings
abbrev pub shape_checks : Machine → ℕ → List ℕ → ℕ → List Check
shape_checks m words run room =
    check 2 (Unless (SizedRun m run))
    ∷ check 3 (Short (couples m) (length m.table))
    ∷ check 3 (Short m.states words)
    ∷ check 3 (Short (readings_needed run) room)
    ∷ []

-- the checks of expected readings: 2, 3, 4, 10, 17
abbrev pub expected_checks : Machine → ℕ → List ℕ → ℕ → List Check
expected_checks m words run room = shape_checks m words run room ++ move_checks m ++ check 17 (Fault m run) ∷ []

-- success: the readings written
pub record ExpectedDone (run : List ℕ) (a : Answer) : Type 0 where
  pub number : a.number ≡ 0
  pub place : a.place ≡ readings_needed run

-- the promise of expected readings: the verdict, and the specification's own readings on the run
pub record ExpectedAs (m : Machine) (words run readings₀ : List ℕ) (a : Answer) (readings₁ : List ℕ) : Type 0 where
  pub verdict : Judged (expected_checks m (length words) run (length readings₀)) (ExpectedDone run) a
  pub readings : Written a.number (λ w. w ≡ readings (specified m (λ s. get_or words s 0)) run) readings₀ readings₁
