-- A couple of a table is transient exactly if the element at its move's couple is not its move: the couple is that of quotient and
-- remainder.
use mathlib.Core.Path.{◌≡◌, sym, ap, ap₂, ◌∙◌}
use mathlib.Core.List.{List}
use Prim.Native.Nat.{ℕ, ◌+◌, ◌*◌, ◌/◌, ◌%◌, ◌≤◌, ◌<◌}
use native.Mathlib.Nat.{div-add-mod'}
use lib.ListN.{get_or}
use lib.Arith.{digits_mod}
use mathlib.Core.Logic.{⊎_elim}
use Rattle.std.specs.Prelude.{Option}
use Rattle.verdict.specs.Checks.{Nowhere, Finds}
use Rattle.verdict.proofs.Tests.{finds_map}
use Rattle.machine.specs.Moves.{table_moves, Stateless, Transient}
use Rattle.machine.proofs.Couples.{couple_of, couple_below, some_setting}
use Rattle.machine.proofs.Order.{below_or}

module _ (T : List ℕ) {m states p : ℕ} where
  pub transient_at : 0 < m → p < states * m → (get_or T (get_or T p 0 * m + p % m) 0 ≡ get_or T p 0 → ⊥) → Transient (table_moves T m) states m p
  transient_at z h n =
      record { s = p / m; v = p % m; t = get_or T p 0; couple = couple_of p z h; moves = ap (λ c. get_or T c 0) (div-add-mod' p m); unrest = n }

  pub transient_not : get_or T (get_or T p 0 * m + p % m) 0 ≡ get_or T p 0 → Transient (table_moves T m) states m p → ⊥
  transient_not h x =
      let k = x.couple in
      let q : get_or T p 0 ≡ x.t = ap (λ c. get_or T c 0) k.number ∙ x.moves in
      let r : p % m ≡ x.v = ap (◌% m) k.number ∙ digits_mod x.s k.setting in
      x.unrest (sym (ap₂ (λ (t v : ℕ). get_or T (t * m + v) 0) q r) ∙ h ∙ q)

-- refusal 4 at a couple
pub stateless_at : (T : List ℕ) {states m p : ℕ} → p < states * m → states ≤ get_or T p 0 → Stateless T states m p
stateless_at T {states} {m} {p} h b = record { s = p / m; v = p % m; couple = couple_of p (some_setting states m p h) h; beyond = b }

-- a search for elements beyond the states is one for refusal 4
pub stateless_finds : (T : List ℕ) (states m : ℕ) (x : Option ℕ) → Finds (λ c. (c < states * m) × (states ≤ get_or T c 0)) x → Finds (Stateless T states m) x
stateless_finds T states m x = finds_map _ (Stateless T states m) x (λ p f. stateless_at T f.0 f.1) (λ p s. (couple_below s.couple, s.beyond))

-- a table that fails check 4 nowhere holds a state at each couple
pub all_states : (T : List ℕ) (states m : ℕ) → Nowhere (Stateless T states m) → (p : ℕ) → p < states * m → get_or T p 0 < states
all_states T states m n p h = ⊎_elim
    (λ l. l)
    (λ l. absurd (n.nowhere p (stateless_at T h l)))
    (below_or (get_or T p 0) states)
