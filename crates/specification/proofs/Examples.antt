-- The lamp without rest conditions, with a kind 6, and the file with them that is written from it, byte for byte by computing; it fits, as
-- the theorem on both asks.
use mathlib.Core.Path.{◌≡◌, refl, sym, subst}
use mathlib.Core.List.{List, [], ◌∷◌, ◌++◌}
use Prim.Native.Nat.{ℕ, zero, suc, ◌≤◌, ◌<◌}
use native.Mathlib.Omega.{arith}
use lib.ListN.{length}
use Rattle.verdict.specs.Below.{sum_to, join_to}
use Rattle.basics.specs.Texts.{letters}
use Rattle.condition.specs.Grammar.{condition, Tree, one, bang, paren, input, text, opened}
use Rattle.condition.specs.Condition.{parentheses}
use Rattle.condition.proofs.Trees.{one_tree}
use Rattle.specification.specs.Limits.{most_text}
use Rattle.specification.specs.File.{start_of}
use Rattle.specification.specs.Records.{sizes_of}
use Rattle.specification.specs.Rests.{conditions_from, rest_text, with_rests, Nested, Fits}

-- the contents of a lamp's file, kind 4 of so many bytes and kind 6 behind it
abbrev contents : ℕ → ℕ → List ℕ
contents long behind =
    5
    ∷ 1 ∷ 30 ∷ 0 ∷ 4 ∷ 0
    ∷ 2 ∷ 34 ∷ 0 ∷ 6 ∷ 0
    ∷ 3 ∷ 40 ∷ 0 ∷ 6 ∷ 0
    ∷ 4 ∷ 46 ∷ 0 ∷ long ∷ 0
    ∷ 6 ∷ behind ∷ 0 ∷ 1 ∷ 0 ∷ []

-- its sizes, states and evolutions, with rest conditions of these lengths
abbrev records : ℕ → ℕ → List ℕ
records first second =
    1 ∷ 1 ∷ 2 ∷ 0
    ∷ 0 ∷ 0 ∷ first
    ∷ 1 ∷ 0 ∷ second
    ∷ 0 ∷ 1 ∷ 1
    ∷ 1 ∷ 0 ∷ 2 ∷ []

unfoldable pub lamp : List ℕ
lamp = letters "SEQ2" ++ contents 3 49 ++ records 0 0 ++ letters "a!a" ++ letters "1"

pub lamp_written : with_rests lamp ≡ letters "SEQ1" ++ contents 12 58 ++ records 4 5 ++ letters "!(a)!(!a)a!a" ++ letters "1"
unfolding lamp with_rests join_to conditions_from start_of sum_to
lamp_written = refl

-- the trees of `!(a)` and `!(!a)`
rest_of_0 : Tree condition
rest_of_0 = one (one (bang (paren (one (one (input 0))))))

rest_of_1 : Tree condition
rest_of_1 = one (one (bang (paren (one (one (bang (input 0)))))))

nested : (s : ℕ) → s < 2 → Nested lamp (sizes_of lamp) s
unfolding lamp conditions_from start_of sum_to text opened rest_of_0 rest_of_1
nested zero h t e = subst (λ t. opened t ≤ parentheses) (one_tree rest_of_0 t (sym e)) (omega arith)
nested (suc zero) h t e = subst (λ t. opened t ≤ parentheses) (one_tree rest_of_1 t (sym e)) (omega arith)
nested (suc (suc s)) h t e = absurd (omega arith)

short : (s : ℕ) → s < 2 → length (rest_text lamp (sizes_of lamp) s) ≤ most_text
unfolding lamp conditions_from start_of sum_to
short zero h = omega arith
short (suc zero) h = omega arith
short (suc (suc s)) h = absurd (omega arith)

pub lamp_fits : Fits lamp
unfolding lamp with_rests join_to conditions_from start_of sum_to
lamp_fits = record { short = short; nested = nested; few = omega arith }
