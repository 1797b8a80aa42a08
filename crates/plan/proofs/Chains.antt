-- The settings along a chain of parents, and the stored runs made of them: each law goes one couple back along the chain, or one
-- couple up in the plan.
use mathlib.Core.Path.{◌≡◌, refl}
use mathlib.Core.Logic.{⊎_elim}
use mathlib.Core.List.{List, [], ◌∷◌, ◌++◌, append_assoc}
use mathlib.Core.Bool.{Bool, true, false, cond}
use Prim.Native.Nat.{ℕ, zero, suc, ◌+◌, ◌/◌, ◌%◌, ◌≤◌, ◌<◌}
use native.Mathlib.Numerals.{add-one}
use native.Mathlib.Nat.{eq-or-lt_of_le}
use native.Mathlib.Omega.{arith}
use Rattle.std.proofs.lemmas.List.{drop-set}
use lib.ListN.{length, get_or, set, drop, length-append}
use Rattle.machine.specs.Plans.{stored_run}
use Rattle.machine.specs.inner.Model.{followed}
use Rattle.several.specs.Weights.{extra}
use Rattle.plan.specs.inner.Writing.{settings, stored_by, piece, pieces}

-- what stands behind the settings stays there
followed_front : (size : ℕ) (parent : ℕ → ℕ) (k c : ℕ) (vs ws : List ℕ) → followed size parent k c (vs ++ ws) ≡ followed size parent k c vs ++ ws
followed_front size parent zero c vs ws = refl
followed_front size parent (suc k) c vs ws = followed_front size parent k (parent c) (c % size ∷ vs) ws

module _ (P : List ℕ) (z : ℕ) where
  pub settings_none : (c : ℕ) → settings P z c 0 ≡ []
  unfolding settings
  settings_none c = refl

  -- one couple more, at the end
  pub settings_more : (c n : ℕ) → settings P z c (suc n) ≡ settings P z (get_or P c 0) n ++ (c % z ∷ [])
  unfolding settings
  settings_more c n = followed_front z (λ d. get_or P d 0) n (get_or P c 0) [] (c % z ∷ [])

  pub length_settings : (n c : ℕ) → length (settings P z c n) ≡ n
  length_settings zero c = rw (settings_none c) refl
  length_settings (suc n) c = rw (settings_more c n, length-append, length_settings n (get_or P c 0)) (add-one n)

  -- one setting written, one fewer is left
  pub settings_back : (c m n : ℕ) (l : List ℕ) → n ≡ m + 1 → m < length l
      → settings P z (get_or P c 0) m ++ drop m (set l m (c % z)) ≡ settings P z c n ++ drop n l
  settings_back c m n l e h = rw (drop-set l m (c % z) h, e, add-one m, settings_more, append_assoc) refl

-- the stored run to a couple, of r changes
module _ (P : List ℕ) (z c r : ℕ) where
  pub length_stored : length (stored_run (settings P z c (r + 1))) ≡ r + 3
  length_stored = rw (length_settings P z (r + 1) c) (omega arith)

-- what the list stores of it, and the plan
pub list_stores : (P : List ℕ) (z c w : ℕ)
    → stored_by true P z c w ≡ (w / extra % 256 ∷ w / extra / 256 ∷ []) ++ stored_run (settings P z c (w % extra + 1))
unfolding stored_by
list_stores P z c w = refl

pub plan_stores : (P : List ℕ) (z c w : ℕ) → stored_by false P z c w ≡ stored_run (settings P z c (w % extra + 1))
unfolding stored_by
plan_stores P z c w = refl

pub length_by : (several : Bool) (P : List ℕ) (z c w : ℕ) → length (stored_by several P z c w) ≡ w % extra + cond several 5 3
unfolding stored_by
length_by true P z c w = omega (arith, length_stored P z c (w % extra))
length_by false P z c w = length_stored P z c (w % extra)

-- the stored runs of chosen couples
module _ (several : Bool) (P W : List ℕ) (z : ℕ) (C : List Bool) where
  pub piece_chosen : (c : ℕ) → get_or C c false ≡ true → piece several P W z C c ≡ stored_by several P z c (get_or W c 0)
  unfolding piece
  piece_chosen c e = rw e refl

  pub piece_left : (c : ℕ) → get_or C c false ≡ false → piece several P W z C c ≡ []
  unfolding piece
  piece_left c e = rw e refl

  pub pieces_none : pieces several P W z C 0 ≡ []
  unfolding pieces
  pieces_none = refl

  pub pieces_more : (c : ℕ) → pieces several P W z C (c + 1) ≡ pieces several P W z C c ++ piece several P W z C c
  unfolding pieces
  pieces_more c = rw (add-one c)

  -- those of the first c couples and of the next are no longer than all
  pub pieces_fit : (t c : ℕ) → c < t → length (pieces several P W z C c) + length (piece several P W z C c) ≤ length (pieces several P W z C t)
  unfolding pieces
  pieces_fit zero c h = absurd (omega arith)
  pieces_fit (suc t) c h =
      rw length-append (⊎_elim
      (λ (e : c ≡ t). rw e (omega arith))
      (λ (l : c < t). omega (arith, pieces_fit t c l))
      (eq-or-lt_of_le (omega arith)))
