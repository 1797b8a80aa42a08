-- The evolutions handed on as a lent list of records (document 01, "Specification file"). Assumes nothing: these are definitions.
use Rattle.std.specs.Prelude.{◌≡◌, List, [], ◌∷◌, ◌++◌, ℕ, zero, suc, ◌+◌, ◌≤◌, drop, replicate}
use Rattle.evolutions.specs.Evolutions.{blank}
use Rattle.evolutions.specs.declared.Evolution.{Evolution}
use Rattle.specification.specs.Records.{source, target, text_length}
use Rattle.specification.specs.Rules.{text_at}
use Rattle.specification.specs.declared.records.Sizes.{Sizes}

-- evolution e: source, target, place in the file and length of its condition
abbrev pub evolution_of : List ℕ → Sizes → ℕ → Evolution
evolution_of file z e =
    let r = z.states + e in
    record { source = source file z r; target = target file z r; at = text_at file z r; length = text_length file z r }

-- the first n of them, in order
unfoldable pub evolutions : List ℕ → Sizes → ℕ → List Evolution
evolutions file z zero = []
evolutions file z (suc n) = evolutions file z n ++ evolution_of file z n ∷ []

-- What reading leaves in the records a, by the number it answers: after 1 to 3 nothing changes; after 4 to 13 the needed records are
-- zero; on success they are the evolutions. Those beyond never change.
pub record Handed (number : ℕ) (file : List ℕ) (z : Sizes) (a b : List Evolution) : Type 0 where
  pub unchanged : 1 ≤ number → number ≤ 3 → b ≡ a
  pub blanked : 4 ≤ number → b ≡ replicate z.evolutions blank ++ drop z.evolutions a
  pub filled : number ≡ 0 → b ≡ evolutions file z z.evolutions ++ drop z.evolutions a
