-- The runs of what marking left, as they are chosen and written: the definitions of this folder at the lists of one value.
use Rattle.std.specs.Prelude.{List, Bool, ℕ, get_or}
use Rattle.verdict.specs.declared.Answer.{Answer}
use Rattle.plan.specs.declared.marked.Marked.{Marked}
use Rattle.plan.specs.inner.Writing.{settings, stored_by, pieces, RunEnds}
use Rattle.plan.specs.inner.Choosing.{wanted, noted_change, noted_run, whole_plan, Turn, Chosen}

-- the last n settings of the run to couple c, and what is stored of it
abbrev pub run_in : Marked → ℕ → ℕ → List ℕ
run_in m c n = settings m.parents.now m.size c n

abbrev pub stored_in : Marked → ℕ → List ℕ
stored_in m c = stored_by m.several m.parents.now m.size c (get_or m.weights.now c 0)

-- the stored runs of chosen couples, and of those that the plan or list chooses
abbrev pub pieces_in : Marked → List Bool → List ℕ
pieces_in m chosen = pieces m.several m.parents.now m.weights.now m.size chosen m.couples

abbrev pub plan_in : Marked → List ℕ
plan_in m = whole_plan m.several m.table.now m.parents.now m.weights.now m.size m.couples

-- the couples that a change and a run visit, noted
abbrev pub change_noted : Marked → ℕ → ℕ → List Bool → List Bool
change_noted m p v visited = noted_change m.table.now m.size p v visited

abbrev pub run_noted : Marked → ℕ → ℕ → List Bool → List Bool
run_noted m c changes visited = noted_run m.table.now m.parents.now m.size c changes visited

-- whether couple c is chosen, its turn, and the turns of all
abbrev pub wanted_in : Marked → List Bool → ℕ → Bool
wanted_in m visited c = wanted m.several m.weights.now visited c

abbrev pub TurnIn : Marked → ℕ → ℕ → List Bool → List Bool → List Bool → List Bool → Type 0
TurnIn m c = Turn m.several m.table.now m.parents.now m.weights.now m.size c

abbrev pub ChosenIn : Marked → ℕ → List Bool → List Bool → List Bool → List Bool → Type 0
ChosenIn m = Chosen m.several m.table.now m.parents.now m.weights.now m.size m.couples

-- how the run to couple c ends
abbrev pub RunEndsIn : Marked → ℕ → List ℕ → Answer → List ℕ → Type 0
RunEndsIn m c = RunEnds m.several m.weights.now m.parents.now m.size m.couples c
