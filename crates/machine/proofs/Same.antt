-- Two relations of moves that agree on the couples have the same transients, the same states reached, the same starts: each is carried
-- over move by move.
use Prim.Native.Nat.{ℕ, ◌<◌}
use Rattle.machine.specs.Moves.{Transient, Reached, start, step, Unreached, Start}

-- a move of M within the couples is one of N, and leads to a state
pub record Into (states settings : ℕ) (M N : ℕ → ℕ → ℕ → Type 0) : Type 0 where
  pub to : (s v t : ℕ) → s < states → v < settings → M s v t → N s v t
  pub inside : (s v t : ℕ) → s < states → v < settings → M s v t → t < states

module _ {states settings : ℕ} {M N : ℕ → ℕ → ℕ → Type 0} (f : Into states settings M N) where
  pub transient_into : Into states settings N M → (p : ℕ) → Transient M states settings p → Transient N states settings p
  transient_into g p x =
      let k = x.couple in
      let h = f.inside _ _ _ k.state k.setting x.moves in
      record { s = x.s; v = x.v; t = x.t; couple = k; moves = f.to _ _ _ k.state k.setting x.moves; unrest = λ m. x.unrest (g.to _ _ _ h k.setting m) }

  pub reached_into : {initial : ℕ} → initial < states → {s : ℕ} → Reached M settings initial s → (s < states) × Reached N settings initial s
  reached_into i start = (i, start)
  reached_into i (step v r h m) =
      let q = reached_into i r in
      (f.inside _ _ _ q.0 h m, step v q.1 h (f.to _ _ _ q.0 h m))

  pub start_into : {A B : ℕ → Type 0} {initial v : ℕ} → (A v → B v) → initial < states → Start M A settings initial v → Start N B settings initial v
  start_into may i x = record { below = x.below; rests = f.to _ _ _ i x.below x.rests; allowed = may x.allowed }

pub unreached_into : {states settings initial : ℕ} {M N : ℕ → ℕ → ℕ → Type 0} → Into states settings N M → initial < states → (s : ℕ) → Unreached M states settings initial s → Unreached N states settings initial s
unreached_into g i s x = record { state = x.state; never = λ r. x.never (reached_into g i r).1 }
