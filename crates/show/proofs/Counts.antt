-- The levels of the marked couples, and the lines of ranks behind a line. By induction on the couples, and on the ranks.
use mathlib.Core.Path.{◌≡◌, ap, sym, ◌∙◌}
use mathlib.Core.Bool.{Bool, true, false, cond}
use mathlib.Core.List.{List, [], ◌∷◌, ◌++◌, append_assoc, append-nil}
use mathlib.Core.Logic.{⊎_elim}
use Prim.Native.Nat.{ℕ, zero, suc, ◌+◌, ◌<◌, max}
use native.Mathlib.Nat.{eq-or-lt_of_le}
use native.Mathlib.Omega.{arith}
use lib.Dec.{eqb}
use Rattle.std.specs.Prelude.{not, ◌==◌, filter, fold}
use Rattle.machine.specs.Limits.{unmarked}
use Rattle.show.specs.Sheet.{ranks_in, rank_line, rank_lines}

-- a marked couple has a level of its rank and one more
abbrev is_marked : ℕ → Bool
is_marked x = not (x == unmarked)

-- the greatest level of the marked couples, if none of the others is above n
abbrev greatest : ℕ → List ℕ → ℕ
greatest n ranks = fold (λ a x. max a (x + 1)) n ranks

levels_from : (n : ℕ) (ranks : List ℕ) → greatest n (filter is_marked ranks) ≡ max n (ranks_in ranks)
levels_from n [] = omega arith
levels_from n (x ∷ ranks) = by (eqb x unmarked) (λ k. levels_from k ranks)
  where
    by : (t : Bool) → ((k : ℕ) → greatest k (filter is_marked ranks) ≡ max k (ranks_in ranks))
        → greatest n (cond (not t) (x ∷ filter is_marked ranks) (filter is_marked ranks)) ≡ max n (cond t (ranks_in ranks) (max (suc x) (ranks_in ranks)))
    by true rest = rest n
    by false rest = rest (max n (x + 1)) ∙ omega arith

pub levels_are : (ranks : List ℕ) → fold (λ a x. max a (x + 1)) 0 (filter (λ x. not (x == unmarked)) ranks) ≡ ranks_in ranks
levels_are ranks = levels_from 0 ranks ∙ omega arith

-- a line and those behind it
pub lines_split : (count : ℕ → ℕ) (r n : ℕ) → r < n → (rest : List ℕ) × (rank_lines count n ≡ (rank_lines count r ++ rank_line r (count r)) ++ rest)
lines_split count r zero h = absurd (omega arith)
lines_split count r (suc n) h =
    ⊎_elim
    (λ (e : r ≡ n). ([], rw e (sym (append-nil (rank_lines count n ++ rank_line n (count n))))))
    (λ (l : r < n).
    let (rest, e) = lines_split count r n l in
    (rest ++ rank_line n (count n), ap (λ (l : List ℕ). l ++ rank_line n (count n)) e ∙ append_assoc (rank_lines count r ++ rank_line r (count r)) rest (rank_line n (count n))))
    (eq-or-lt_of_le (omega arith))
