-- The ranks and parents of the lamp and of the gate: given lists pass the test of a certificate.
use mathlib.Core.Path.{◌≡◌, refl}
use mathlib.Core.Logic.{inl, inr}
use mathlib.Core.List.{List, [], ◌∷◌}
use mathlib.Core.Bool.{Bool, true}
use Prim.Native.Nat.{ℕ, ◌<◌}
use native.Mathlib.Omega.{arith}
use lib.ListN.{get_or}
use lib.Dec.{eqb, ltb, lit<, lit≤}
use Rattle.machine.specs.Limits.{unmarked}
use Rattle.machine.specs.Couples.{differing}
use Rattle.machine.specs.Runs.{Machine, size, couples, move, Sound, Marked, Rank, RankOrUnmarked}
use Rattle.machine.specs.inner.Model.{Listed}
use Rattle.verdict.proofs.Tests.{decides_equal, decides_below}
use Rattle.verdict.specs.Below.{every}
use Rattle.verdict.proofs.Below.{decides_every}
use Rattle.machine.proofs.Tests.{starts, changes, steps}
use Rattle.machine.proofs.Certificate.{right, by_test}
use Rattle.starred.specs.Rows.{lamp_table, gate_table, lamp, gate}

module _ (m : Machine) where
  closed : Bool
  closed = every (couples m) (λ c. ltb (get_or m.table c 0) m.states)

  calm : Bool
  calm = every m.states (λ s. every (size m) (λ v. eqb (move m (move m s v) v) (move m s v)))

  sound : m.initial < m.states → closed ≡ true → calm ≡ true → Sound m
  unfolding closed calm
  sound b e f =
      let each = (decides_every m.states _ (λ s. (v : ℕ) → v < size m → move m (move m s v) v ≡ move m s v) (λ s. decides_every (size m) _ _ (λ v. decides_equal _ _))).holds f in
      record {
        begins = b;
        closed = (decides_every (couples m) _ _ (λ c. decides_below _ _)).holds e;
        calm = λ s v h k. each s h v k;
      }

-- what a list of ranks tells
pub is_rank : {m : Machine} {c x : ℕ} → RankOrUnmarked m c x → x < unmarked → Rank m c x
is_rank (inl r) h = r.1
is_rank (inr n) h = absurd (omega arith)

pub not_marked : {m : Machine} {c : ℕ} → RankOrUnmarked m c unmarked → Marked m c → ⊥
not_marked (inl r) = absurd (omega arith)
not_marked (inr n) = n.1

pub lamp_sound : Sound lamp
unfolding lamp_table closed calm every
lamp_sound = sound lamp (lit< tt) refl refl

pub lamp_listed : Listed lamp (0 ∷ 1 ∷ 2 ∷ 1 ∷ []) (0 ∷ 0 ∷ 3 ∷ 0 ∷ [])
unfolding lamp_table every right starts changes steps differing
lamp_listed = by_test lamp _ _ lamp_sound (lit≤ tt) refl

pub gate_sound : Sound gate
unfolding gate_table closed calm every
gate_sound = sound gate (lit< tt) refl refl

abbrev pub gate_ranks : List ℕ
gate_ranks =
    1 ∷ 1 ∷ 1 ∷ 1 ∷ 1 ∷ 0 ∷ 0 ∷ 0 ∷ 0 ∷ 0 ∷ 1 ∷ 1 ∷ 0 ∷ 0 ∷ 0 ∷ 0
    ∷ 1 ∷ 2 ∷ 2 ∷ unmarked ∷ 1 ∷ 2 ∷ 2 ∷ unmarked ∷ 2 ∷ unmarked ∷ unmarked ∷ unmarked ∷ 2 ∷ unmarked ∷ unmarked ∷ unmarked
    ∷ 2 ∷ 1 ∷ 1 ∷ 1 ∷ 3 ∷ 2 ∷ 2 ∷ 2 ∷ 2 ∷ 2 ∷ 1 ∷ 1 ∷ 3 ∷ 3 ∷ 2 ∷ 2 ∷ []

abbrev pub gate_parents : List ℕ
gate_parents =
    8 ∷ 5 ∷ 6 ∷ 7 ∷ 5 ∷ 0 ∷ 0 ∷ 0 ∷ 0 ∷ 0 ∷ 8 ∷ 9 ∷ 0 ∷ 0 ∷ 0 ∷ 0
    ∷ 8 ∷ 16 ∷ 16 ∷ 0 ∷ 5 ∷ 20 ∷ 20 ∷ 0 ∷ 16 ∷ 0 ∷ 0 ∷ 0 ∷ 20 ∷ 0 ∷ 0 ∷ 0
    ∷ 33 ∷ 5 ∷ 6 ∷ 7 ∷ 32 ∷ 33 ∷ 34 ∷ 35 ∷ 42 ∷ 33 ∷ 8 ∷ 9 ∷ 40 ∷ 41 ∷ 42 ∷ 43 ∷ []

pub gate_listed : Listed gate gate_ranks gate_parents
unfolding gate_table every right starts changes steps differing
gate_listed = by_test gate _ _ gate_sound (lit≤ tt) refl
