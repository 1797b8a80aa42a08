-- The lamp's plan shrinks to its third run, in 5 bytes: the first two visit only what it visits.
use mathlib.Core.Path.{refl}
use mathlib.Core.Logic.{⊎_elim, inl, inr}
use mathlib.Core.List.{List, [], ◌∷◌}
use Prim.Native.Nat.{ℕ}
use lib.Dec.{eqb}
use Rattle.machine.specs.Runs.{Machine, bare_machine, starting_at}
use Rattle.shorten.specs.Shortening.{Shortens, Shortened}
use Rattle.shorten.specs.Shortening.Shortens.{ends, out, stays}

abbrev lamp : Machine
lamp = starting_at (λ v. eqb v 0) (bare_machine 1 2 0 (0 ∷ 1 ∷ 0 ∷ 1 ∷ []))

abbrev lamp_plan : List (List ℕ)
lamp_plan = (0 ∷ []) ∷ (0 ∷ 1 ∷ []) ∷ (0 ∷ 1 ∷ 0 ∷ []) ∷ []

lamp_shortens : Shortens lamp [] lamp_plan ((0 ∷ 1 ∷ 0 ∷ []) ∷ [])
lamp_shortens =
    out (record { elsewhere = λ c i. (0 ∷ 1 ∷ 0 ∷ [], inr (inl refl), ⊎_elim inl absurd i) })
    (out (record { elsewhere = λ c i. (0 ∷ 1 ∷ 0 ∷ [], inl refl, ⊎_elim inl (λ j. inr (⊎_elim inl (λ k. inr (⊎_elim inl absurd k)) j)) i) })
    (stays (λ s. (s.elsewhere 0 (inl refl)).1) ends))

pub lamp_shorter : Shortened lamp (1 ∷ 0 ∷ 0 ∷ 2 ∷ 0 ∷ 0 ∷ 1 ∷ 3 ∷ 0 ∷ 0 ∷ 1 ∷ 0 ∷ []) (3 ∷ 0 ∷ 0 ∷ 1 ∷ 0 ∷ [])
lamp_shorter = record { runs = lamp_plan; left = (0 ∷ 1 ∷ 0 ∷ []) ∷ []; splits = refl; shortens = lamp_shortens; stores = refl }
