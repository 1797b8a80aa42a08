-- The numbers below n: a test of each, a sum over them, a list, and lists end to end. Assumes nothing: these are definitions.
use Rattle.std.specs.Prelude.{Bool, true, ◌&&◌, List, [], ◌∷◌, ◌++◌, ℕ, zero, suc, ◌+◌}

-- f holds of every number below n
unfoldable pub every : ℕ → (ℕ → Bool) → Bool
every zero f = true
every (suc n) f = f n && every n f

-- f 0 + … + f (n - 1)
unfoldable pub sum_to : (ℕ → ℕ) → ℕ → ℕ
sum_to f zero = 0
sum_to f (suc n) = sum_to f n + f n

-- f 0, …, f (n - 1)
unfoldable pub list_to : (ℕ → ℕ) → ℕ → List ℕ
list_to f zero = []
list_to f (suc n) = f zero ∷ list_to (λ i. f (suc i)) n

-- f 0, …, f (n - 1), end to end
unfoldable pub join_to : (ℕ → List ℕ) → ℕ → List ℕ
join_to f zero = []
join_to f (suc n) = join_to f n ++ f n
