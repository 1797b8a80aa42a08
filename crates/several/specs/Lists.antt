-- The list of runs apart from the plan, and its stored form (document 02, ticket 6). Assumes nothing: these are definitions.
use Rattle.std.specs.Prelude.{List, [], ◌∷◌, ◌++◌, map, ℕ, zero, suc, ◌+◌, ◌*◌, ◌/◌, ◌%◌, length, take, drop}
use Rattle.machine.specs.Runs.{Machine, Marked}
use Rattle.machine.specs.Plans.{VisitedBy, stored_run}
use Rattle.several.specs.Several.{singly, multiples, MultiRunTo}

-- Beside a plan, the list over the first t couples, in rising number: the run to each couple that single changes do not mark, that
-- some run visits, and that no earlier run of plan or list does.
pub data MultiList (m : Machine) (plan : List (List ℕ)) : ℕ → List (List ℕ) → Type 0 where
  empty : MultiList m plan 0 []
  pass : {c : ℕ} {list : List (List ℕ)} → MultiList m plan c list
      → ((Marked (singly m) c → ⊥) → Marked m c → VisitedBy m c (plan ++ list)) → MultiList m plan (suc c) list
  add : {c : ℕ} {list : List (List ℕ)} {vs : List ℕ} → MultiList m plan c list
      → (Marked (singly m) c → ⊥) → (VisitedBy m c (plan ++ list) → ⊥) → MultiRunTo m c vs → MultiList m plan (suc c) (list ++ (vs ∷ []))

-- stored form: the count of multiple changes in two bytes, low byte first, then the stored run; runs end to end
abbrev pub stored_multi : Machine → List ℕ → List ℕ
stored_multi m vs = multiples m vs % 256 ∷ multiples m vs / 256 ∷ stored_run vs

abbrev pub stored_list : Machine → List (List ℕ) → List ℕ
stored_list m [] = []
stored_list m (vs ∷ list) = stored_multi m vs ++ stored_list m list

-- the runs that bytes hold, each behind its count of multiple changes, k at most
abbrev pub split_list : ℕ → List ℕ → List (ℕ × List ℕ)
split_list zero bs = []
split_list (suc k) [] = []
split_list (suc k) (a ∷ []) = []
split_list (suc k) (a ∷ b ∷ []) = []
split_list (suc k) (a ∷ b ∷ low ∷ []) = []
split_list (suc k) (a ∷ b ∷ low ∷ high ∷ bs) = (b * 256 + a, take (high * 256 + low) bs) ∷ split_list k (drop (high * 256 + low) bs)

abbrev pub list_in : List ℕ → List (ℕ × List ℕ)
list_in bs = split_list (length bs) bs

-- runs behind their counts of multiple changes
abbrev pub counted : Machine → List (List ℕ) → List (ℕ × List ℕ)
counted m list = map (λ vs. (multiples m vs, vs)) list
