-- The sheet, as document 01 prints it at the end of its examples. Assumes nothing.
use Rattle.std.specs.Prelude.{cond, List, [], ◌∷◌, ◌++◌, map, ℕ, zero, suc, max, length, eqb, not, ◌==◌, count_by}
use Rattle.basics.specs.Texts.{letters}
use Rattle.machine.specs.Limits.{unmarked}
use Rattle.machine.specs.Plans.{runs_in}
use Rattle.several.specs.Lists.{list_in}
use Rattle.show.specs.Digits.{digits}

-- one blank parts fields, a line feed ends each line
abbrev pub fields_behind : List (List ℕ) → List ℕ
fields_behind [] = letters "\n"
fields_behind (field ∷ fields) = letters " " ++ (field ++ fields_behind fields)

-- a line of a word and of fields behind it
abbrev pub line : List ℕ → List (List ℕ) → List ℕ
line word fields = word ++ fields_behind fields

-- how many couples have the rank r
abbrev pub count_of : ℕ → List ℕ → ℕ
count_of r ranks = count_by (λ x. x == r) ranks

-- how many couples are marked
abbrev pub marked_in : List ℕ → ℕ
marked_in ranks = count_by (λ x. not (x == unmarked)) ranks

-- how many ranks there are from 0 to the highest of a marked couple; none where no couple is marked
abbrev pub ranks_in : List ℕ → ℕ
ranks_in [] = 0
ranks_in (x ∷ ranks) = cond (eqb x unmarked) (ranks_in ranks) (max (suc x) (ranks_in ranks))

-- inputs, states, couples, and the number of marked couples
unfoldable pub first_line : ℕ → ℕ → ℕ → ℕ → List ℕ
first_line inputs states couples marked =
    line
    (letters "INPUTS")
    (digits inputs
    ∷ letters "STATES"
    ∷ digits states
    ∷ letters "COUPLES"
    ∷ digits couples
    ∷ letters "MARKED"
    ∷ digits marked
    ∷ [])

-- a rank and its count of couples
abbrev pub rank_line : ℕ → ℕ → List ℕ
rank_line r count = line (letters "RANK") (digits r ∷ digits count ∷ [])

-- such a line for each rank below r
abbrev pub rank_lines : (ℕ → ℕ) → ℕ → List ℕ
rank_lines count zero = []
rank_lines count (suc r) = rank_lines count r ++ rank_line r (count r)

-- a word, a number, then the settings of a run
abbrev pub run_line : List ℕ → ℕ → List ℕ → List ℕ
run_line word k settings = line word (digits k ∷ map digits settings)

-- such a line for each run of the plan, the first having number k
abbrev pub run_lines : ℕ → List (List ℕ) → List ℕ
run_lines k [] = []
run_lines k (settings ∷ runs) = run_line (letters "RUN") k settings ++ run_lines (suc k) runs

-- and for each run apart from the plan, with its count of multiple changes (document 02, ticket 6)
abbrev pub multi_lines : List (ℕ × List ℕ) → List ℕ
multi_lines [] = []
multi_lines ((count, settings) ∷ list) = run_line (letters "MULTI") count settings ++ multi_lines list

-- the whole sheet, of the ranks of all couples and the bytes of the stored plan and of the stored list apart from it
abbrev pub sheet_text : ℕ → ℕ → List ℕ → List ℕ → List ℕ → List ℕ
sheet_text inputs states ranks plan list =
    first_line inputs states (length ranks) (marked_in ranks)
    ++ (rank_lines (λ r. count_of r ranks) (ranks_in ranks)
    ++ (run_lines 1 (runs_in plan) ++ multi_lines (list_in list)))

-- the one line of a refusal: 5 alone has a third field, the character (document 02, ticket 4)
abbrev pub refusal_text : ℕ → ℕ → ℕ → List ℕ
refusal_text number place character =
    line (letters "REFUSED") (digits number ∷ digits place ∷ cond (eqb number 5) (digits character ∷ []) [])
