-- Writing a run, and the chosen runs of a plan or list, from weights and parents.
use Rattle.std.specs.Prelude.{◌≡◌, List, [], ◌∷◌, ◌++◌, Bool, true, false, cond, ℕ, zero, suc, ◌+◌, ◌/◌, ◌%◌, ◌≤◌, ◌<◌, length, get_or, drop}
use Rattle.verdict.specs.Buffers.{Front}
use Rattle.verdict.specs.declared.Answer.{Answer}
use Rattle.machine.specs.Limits.{most_settings}
use Rattle.machine.specs.Plans.{stored_run}
use Rattle.machine.specs.inner.Model.{followed}
use Rattle.several.specs.Weights.{extra, unweighed}

-- the settings of n couples, c and its parents, at so many settings: from couple c, one more than the run to it has changes
unfoldable pub settings : List ℕ → ℕ → ℕ → ℕ → List ℕ
settings parents size c n = followed size (λ d. get_or parents d 0) n c []

-- what is stored of the run to couple c of weight w: the run; in the list its multiple changes in two bytes in front
unfoldable pub stored_by : Bool → List ℕ → ℕ → ℕ → ℕ → List ℕ
stored_by false parents size c w = stored_run (settings parents size c (w % extra + 1))
stored_by true parents size c w = w / extra % 256 ∷ w / extra / 256 ∷ stored_run (settings parents size c (w % extra + 1))

module _ (several : Bool) (parents weights : List ℕ) (size : ℕ) (chosen : List Bool) where
  -- what the plan or list stores for couple c where it is chosen, and for the first c couples
  unfoldable pub piece : ℕ → List ℕ
  piece c = cond (get_or chosen c false) (stored_by several parents size c (get_or weights c 0)) []

  unfoldable pub pieces : ℕ → List ℕ
  pieces zero = []
  pieces (suc c) = pieces c ++ piece c

-- t couples at so many settings, whose parents are couples
pub record Tree (parents : List ℕ) (size t : ℕ) : Type 0 where
  pub some : 0 < size
  pub small : size ≤ most_settings
  pub long : t ≤ length parents
  pub parent : (c : ℕ) → c < t → get_or parents c 0 < t

-- w, of n elements, was written at the front of a, which became b
pub record Put (w : List ℕ) (n : ℕ) (a b : List ℕ) : Type 0 where
  pub count : n ≡ length w
  pub is : b ≡ w ++ drop n a

-- how w ends in a lent buffer a: refused by 16 with the room needed, or at its front
pub data Ends (w a : List ℕ) : Answer → List ℕ → Type 0 where
  short : length a < length w → Ends w a (record { number = 16; place = length w }) a
  fits : {b : List ℕ} → length w ≤ length a → Front w a b → Ends w a (record { number = 0; place = length w }) b

-- the refusal of a couple that no run visits, where several inputs may change at once, or not
abbrev pub unvisited_by : Bool → ℕ
unvisited_by true = 20
unvisited_by false = 15

-- how the run to couple c ends, by the weights and parents of t couples
pub data RunEnds (several : Bool) (weights parents : List ℕ) (size t c : ℕ) (run : List ℕ) : Answer → List ℕ → Type 0 where
  outside : t ≤ c → RunEnds several weights parents size t c run (record { number = 14; place = 0 }) run
  unvisited : c < t → get_or weights c 0 ≡ unweighed → RunEnds several weights parents size t c run (record { number = unvisited_by several; place = 0 }) run
  visited : {a : Answer} {run₁ : List ℕ} → c < t → (get_or weights c 0 ≡ unweighed → ⊥) → Ends (settings parents size c (get_or weights c 0 % extra + 1)) run a run₁ → RunEnds several weights parents size t c run a run₁
