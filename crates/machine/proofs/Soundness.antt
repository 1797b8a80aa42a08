-- A table without refusals 4 and 10 makes a sound machine, and back: equality of numbers is decided, so what is nowhere refuted holds.
use mathlib.Core.Path.{◌≡◌, refl, subst}
use mathlib.Core.Logic.{⊎_elim}
use Prim.Native.Nat.{ℕ, ◌/◌, ◌%◌, ◌<◌}
use native.Mathlib.Omega.{arith}
use lib.ListN.{get_or}
use lib.Pow.{pow_pos}
use Rattle.verdict.specs.Checks.{Nowhere}
use Rattle.machine.specs.Moves.{table_moves, Stateless, Transient}
use Rattle.machine.specs.Runs.{Machine, size, couples, couple, move, Sound}
use Rattle.machine.proofs.Order.{below_or, equal_or}
use Rattle.machine.proofs.Couples.{couple_of, couple_below}

module _ (m : Machine) where
  closed : Nowhere (Stateless m.table m.states (size m)) → (c : ℕ) → c < couples m → get_or m.table c 0 < m.states
  closed n c h = ⊎_elim
      (λ l. l)
      (λ l. absurd (n.nowhere c (record { s = c / size m; v = c % size m; couple = couple_of c (pow_pos m.inputs) h; beyond = l })))
      (below_or (get_or m.table c 0) m.states)

  calm : Nowhere (Transient (table_moves m.table (size m)) m.states (size m)) → (s v : ℕ) → s < m.states → v < size m → move m (move m s v) v ≡ move m s v
  calm n s v h l = ⊎_elim
      (λ e. e)
      (λ e. absurd (n.nowhere (couple m s v) (record { s = s; v = v; t = move m s v; couple = record { state = h; setting = l; number = refl }; moves = refl; unrest = e })))
      (equal_or (move m (move m s v) v) (move m s v))

  pub sound_machine : m.initial < m.states → Nowhere (Stateless m.table m.states (size m)) → Nowhere (Transient (table_moves m.table (size m)) m.states (size m)) → Sound m
  sound_machine b n o = record { closed = closed n; calm = calm o; begins = b }

module _ {m : Machine} where
  pub sound_states : Sound m → Nowhere (Stateless m.table m.states (size m))
  sound_states ok = record { nowhere = λ p x. let b = x.beyond in omega (arith, ok.closed p (couple_below x.couple)) }

  pub sound_calm : Sound m → Nowhere (Transient (table_moves m.table (size m)) m.states (size m))
  sound_calm ok = record { nowhere = λ p x. x.unrest (subst (λ (t : ℕ). move m t x.v ≡ t) x.moves (ok.calm x.s x.v x.couple.state x.couple.setting)) }
