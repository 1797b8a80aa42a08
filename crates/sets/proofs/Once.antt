-- The promise of `with` leaves one set, since a set is told by its members; that of `has` is an equation.
use mathlib.Core.Path.{◌≡◌, sym, ◌∙◌}
use mathlib.Core.Logic.{⊎_elim}
use mathlib.Core.Bool.{◌||◌}
use mathlib.Core.List.{List}
use Prim.Native.Nat.{ℕ, ◌<◌}
use native.Mathlib.Omega.{arith}
use lib.Dec.{eqb}
use Rattle.verdict.proofs.Tests.{decides_or, decides_below}
use Rattle.sets.specs.Sets.{words, most_members, member, Words}
use Rattle.sets.proofs.Members.{member_beyond, set_only}

pub with_only : (set : List ℕ) (setting : ℕ) (r s : List ℕ)
    → Words words r → ((v : ℕ) → v < most_members → member r v ≡ eqb v setting || member set v)
    → Words words s → ((v : ℕ) → v < most_members → member s v ≡ eqb v setting || member set v) → r ≡ s
with_only set setting r s x e y f = set_only x y (λ v. ⊎_elim
    (λ l. e v l ∙ sym (f v l))
    (λ (l : v < most_members → ⊥). member_beyond r v (omega (arith, x.count)) ∙ sym (member_beyond s v (omega (arith, y.count))))
    (decides_or (decides_below v most_members)))
