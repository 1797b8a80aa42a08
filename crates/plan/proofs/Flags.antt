-- The flags of the first pass choose the runs of the plan or list, and its bytes are counted: by induction on the couples gone through.
use mathlib.Core.Path.{◌≡◌, refl, sym, ap₂, ◌∙◌}
use mathlib.Core.Logic.{⊎_elim}
use mathlib.Core.List.{List, [], ◌++◌}
use mathlib.Core.Bool.{Bool, true, false, cond}
use Prim.Native.Nat.{ℕ, zero, suc, ◌+◌, ◌%◌, ◌≤◌, ◌<◌}
use native.Mathlib.Nat.{eq-or-lt_of_le, le_refl}
use native.Mathlib.Omega.{arith}
use lib.ListN.{length, get_or, length-set, length-append}
use lib.Seq.{get_or-set_same, get_or-set_other}
use Rattle.several.specs.Weights.{extra, unweighed}
use Rattle.plan.specs.inner.Writing.{stored_by, piece, pieces}
use Rattle.plan.specs.inner.Choosing.{wanted, bytes_at, noted, flags, bytes, plan, Chosen}
use Rattle.plan.proofs.Chains.{length_by}
use Rattle.plan.proofs.Turns.{looks_weighed, wanted_looks}

length_picked : (b several : Bool) (P : List ℕ) (z c w : ℕ) → length (cond b (stored_by several P z c w) []) ≡ cond b (w % extra + cond several 5 3) 0
length_picked true several P z c w = length_by several P z c w
length_picked false several P z c w = refl

module _ (several : Bool) (T P W : List ℕ) (z : ℕ) where
  length_flags : (t : ℕ) (F C : List Bool) → length (flags several T P W z t F C) ≡ length C
  unfolding flags
  length_flags zero F C = refl
  length_flags (suc t) F C = simp length-set (length_flags t F C)

  flag_is : (t c : ℕ) (F C : List Bool) → t ≤ length C → c < t → get_or (flags several T P W z t F C) c false ≡ wanted several W (noted several T P W z c F) c
  unfolding flags
  flag_is zero c F C l h = absurd (omega arith)
  flag_is (suc t) c F C l h = ⊎_elim
      (λ (e : c ≡ t). rw e (get_or-set_same (flags several T P W z t F C) t _ false (rw (length_flags t F C) (omega arith))))
      (λ (m : c < t). get_or-set_other (flags several T P W z t F C) t c _ false (λ e. omega arith) ∙ flag_is t c F C (omega arith) m)
      (eq-or-lt_of_le (omega arith))

  pieces_plan : (t c : ℕ) (F C : List Bool) → t ≤ length C → c ≤ t → pieces several P W z (flags several T P W z t F C) c ≡ plan several T P W z c F
  unfolding pieces piece plan
  pieces_plan t zero F C l h = refl
  pieces_plan t (suc c) F C l h = ap₂ (λ (a b : List ℕ). a ++ b)
      (pieces_plan t c F C l (omega arith))
      (rw (flag_is t c F C l (omega arith)) refl)

  -- the bytes counted are the plan's
  plan_bytes : (t : ℕ) (F : List Bool) → length (plan several T P W z t F) ≡ bytes several T P W z t F
  unfolding plan bytes bytes_at
  plan_bytes zero F = refl
  plan_bytes (suc t) F =
      length-append (plan several T P W z t F) _ ∙ ap₂ (λ (a b : ℕ). a + b) (plan_bytes t F) (length_picked (wanted several W (noted several T P W z t F) t) several P z t (get_or W t 0))

-- after the first pass over t couples
module _ {several : Bool} {T P W : List ℕ} {z t n : ℕ} {F C F' C' : List Bool} (p : Chosen several T P W z t n F C F' C') where
  -- the bytes counted are the plan's
  pub chosen_bytes : n ≡ length (plan several T P W z t F)
  chosen_bytes = p.bytes_are ∙ sym (plan_bytes several T P W z t F)

  module _ (l : t ≤ length C) where
    -- the chosen runs are the plan
    pub chosen_plan : pieces several P W z C' t ≡ plan several T P W z t F
    chosen_plan = rw p.chosen_are (pieces_plan several T P W z t t F C l (le_refl t))

    -- the chosen couples have runs
    pub chosen_weighed : (c : ℕ) → c < t → get_or C' c false ≡ true → get_or W c 0 ≡ unweighed → ⊥
    chosen_weighed c h f =
        let e : wanted several W (noted several T P W z c F) c ≡ true = sym (flag_is several T P W z t c F C l h) ∙ (rw p.chosen_are at f) in
        looks_weighed several (get_or W c 0) (wanted_looks several W (noted several T P W z c F) c e)
