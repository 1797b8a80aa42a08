-- Ranks, parents, runs and the plan by computation.
use Rattle.std.specs.Prelude.{List, [], ◌∷◌, ◌++◌, Bool, true, false, not, cond, ℕ, zero, suc, ◌%◌, ◌<◌, get_or, eqb}
use Rattle.machine.specs.Limits.{unmarked}
use Rattle.machine.specs.Runs.{Machine, size, couples, visits, Rank, RankOrUnmarked}
use Rattle.machine.specs.inner.Trails.{Parent}

-- a list of ranks, 65,535 where a couple is not marked, and a list of parents
pub record Listed (m : Machine) (ranks parents : List ℕ) : Type 0 where
  pub rank : (c : ℕ) → c < couples m → RankOrUnmarked m c (get_or ranks c 0)
  pub parent : (r c : ℕ) → Rank m c (suc r) → Parent m r c (get_or parents c 0)

-- the settings of k couples, c and its parents, each in front of the one before: from couple c of rank r, suc r of them
abbrev pub followed : ℕ → (ℕ → ℕ) → ℕ → ℕ → List ℕ → List ℕ
followed size parent zero c vs = vs
followed size parent (suc k) c vs = followed size parent k (parent c) (c % size ∷ vs)

-- c is a member of the list
unfoldable pub among : ℕ → List ℕ → Bool
among c [] = false
among c (d ∷ ds) = cond (eqb c d) true (among c ds)

-- some run of the list visits c
unfoldable pub visited : Machine → ℕ → List (List ℕ) → Bool
visited m c [] = false
visited m c (vs ∷ vss) = cond (among c (visits m vs)) true (visited m c vss)

-- The plan over the first t couples: the run to each one that is marked and not visited by an earlier run.
unfoldable pub planned : Machine → (ℕ → Bool) → (ℕ → List ℕ) → ℕ → List (List ℕ)
planned m marked runTo zero = []
planned m marked runTo (suc c) =
    let before = planned m marked runTo c in
    let longer = before ++ (runTo c ∷ []) in
    cond (marked c) (cond (visited m c before) before longer) before

-- the whole plan
abbrev pub plan_of : Machine → List ℕ → List ℕ → List (List ℕ)
plan_of m ranks parents =
    planned m (λ c. not (eqb (get_or ranks c 0) unmarked)) (λ c. followed (size m) (λ d. get_or parents d 0) (suc (get_or ranks c 0)) c []) (couples m)
