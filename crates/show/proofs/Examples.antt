-- Document 01's sheet of the lamp, the line of a run apart from the plan, and those of two refusals, computed from the definitions.
use mathlib.Core.Path.{◌≡◌, refl}
use mathlib.Core.List.{List, [], ◌∷◌, ◌++◌}
use Prim.Native.Nat.{ℕ}
use Rattle.basics.specs.Texts.{letters}
use Rattle.several.specs.Lists.{list_in}
use Rattle.show.specs.Digits.{digits_up_to, digits}
use Rattle.show.specs.Sheet.{first_line, multi_lines, sheet_text, refusal_text}

abbrev pub lamp_ranks : List ℕ
lamp_ranks = 0 ∷ 1 ∷ 2 ∷ 1 ∷ []

abbrev pub lamp_plan : List ℕ
lamp_plan = 1 ∷ 0 ∷ 0 ∷ 2 ∷ 0 ∷ 0 ∷ 1 ∷ 3 ∷ 0 ∷ 0 ∷ 1 ∷ 0 ∷ []

pub lamp_sheet : sheet_text 1 2 lamp_ranks lamp_plan []
    ≡ letters "INPUTS 1 STATES 2 COUPLES 4 MARKED 4\n"
    ++ letters "RANK 0 1\n"
    ++ letters "RANK 1 2\n"
    ++ letters "RANK 2 1\n"
    ++ letters "RUN 1 0\n"
    ++ letters "RUN 2 0 1\n"
    ++ letters "RUN 3 0 1 0\n"
unfolding digits_up_to digits first_line
lamp_sheet = refl

-- a run of three settings with one multiple change; two bytes more hold no run
pub multi_shown : multi_lines (list_in (1 ∷ 0 ∷ 3 ∷ 0 ∷ 0 ∷ 12 ∷ 8 ∷ 2 ∷ 0 ∷ [])) ≡ letters "MULTI 1 0 12 8\n"
unfolding digits_up_to digits
multi_shown = refl

pub plan_refused : refusal_text 16 65540 0 ≡ letters "REFUSED 16 65540\n"
unfolding digits_up_to digits
plan_refused = refl

pub unread_refused : refusal_text 5 3 4 ≡ letters "REFUSED 5 3 4\n"
unfolding digits_up_to digits
unread_refused = refl
