-- What expanding a couple and giving the starts visit: what the changes tried visit is what those that a run may make do; those of one
-- number more, or the start of one setting more, join those before.
use Rattle.std.specs.Prelude.{Some, None}
use mathlib.Core.Path.{◌≡◌, refl, sym, ap, subst, ◌∙◌}
use mathlib.Core.Bool.{Bool, true, false, and-eq-true_iff}
use mathlib.Core.List.{List}
use mathlib.Core.Logic.{◌⊎◌, inl, inr, ⊎_elim}
use Prim.Native.Nat.{ℕ, ◌+◌, ◌/◌, ◌%◌, ◌^◌, ◌<◌}
use native.Mathlib.Nat.{mod-lt}
use native.Mathlib.Omega.{arith}
use lib.ListN.{get_or}
use lib.Pow.{pow_pos}
use lib.Bits.{bit_xor}
use Rattle.std.specs.Int.Bits.{xor_add_and}
use Rattle.std.specs.Int.{bit_at}
use Rattle.std.specs.Bool.{then_some}
use Rattle.std.proofs.lemmas.Nat.Bits.{bit_at-lt, and_pow}
use borrow.Author.Tests.{eq-eqb, ne_eqb, lt-ltb, eqb-true}
use Rattle.verdict.specs.Checks.{Decides}
use Rattle.verdict.proofs.Tests.{true≢false, it_fails}
use Rattle.machine.specs.Couples.{differing}
use Rattle.machine.specs.Runs.{Machine, machine_by, usable, may_alter, size, couple, move}
use Rattle.machine.specs.declared.Frame.{Frame}
use Rattle.machine.specs.inner.Flips.{flipped}
use Rattle.machine.proofs.Order.{equal_or}
use Rattle.machine.proofs.Flips.{machine_flips}
use Rattle.machine.proofs.Inputs.{flip_differs, flip_small, differs_flip}
use Rattle.several.specs.Weights.{unweighed}
use Rattle.marking.specs.declared.changes.Changes.{Changes}
use Rattle.marking.specs.declared.changes.Changes.TheVariants.{Single, Multiple}
use Rattle.marking.specs.inner.Queue.{Pushed}
use Rattle.marking.specs.inner.Engine.{ByChange, tried, Nth, Told, ByNth, ByFirst, ByRest}
use Rattle.marking.proofs.Pushing.{pushed_none, pushed_then, pushed_as}

module _ {r p : ℕ} {R P Q R₁ P₁ Q₁ : List ℕ} {tail t₁ : ℕ} where
  -- both couples of a change
  pub change_both : {R₂ P₂ Q₂ : List ℕ} {t₂ : ℕ} (m : Machine) (s w : ℕ) {x y : ℕ} → r < unweighed → x ≡ couple m s w → y ≡ couple m (move m s w) w
      → Pushed (λ d. d ≡ x) r p R P Q tail R₁ P₁ Q₁ t₁ → Pushed (λ d. d ≡ y) r p R₁ P₁ Q₁ t₁ R₂ P₂ Q₂ t₂ → Pushed (ByChange m s w) r p R P Q tail R₂ P₂ Q₂ t₂
  change_both m s w h e f x y = rw (e, f) at (pushed_then h x y)

  -- one more of a row
  pub one_more : {R₂ P₂ Q₂ : List ℕ} {t₂ : ℕ} (By : ℕ → ℕ → Type 0) (i : ℕ) → r < unweighed → Pushed (λ d. (j : ℕ) × (j < i) × By j d) r p R P Q tail R₁ P₁ Q₁ t₁
      → Pushed (By i) r p R₁ P₁ Q₁ t₁ R₂ P₂ Q₂ t₂ → Pushed (λ d. (j : ℕ) × (j < i + 1) × By j d) r p R P Q tail R₂ P₂ Q₂ t₂
  one_more By i h x y = pushed_as to of (pushed_then h x y)
    where
      to : (d : ℕ) → ((j : ℕ) × (j < i) × By j d) ⊎ By i d → (j : ℕ) × (j < i + 1) × By j d
      to d (inl (j, l, b)) = (j, omega arith, b)
      to d (inr b) = (i, omega arith, b)

      of : (d : ℕ) → (j : ℕ) × (j < i + 1) × By j d → ((j : ℕ) × (j < i) × By j d) ⊎ By i d
      of d (j, l, b) = ⊎_elim (λ e. inr (subst (λ (g : ℕ). By g d) e b)) (λ (e : j ≡ i → ⊥). inl (j, omega arith, b)) (equal_or j i)

  pub one_passed : (By : ℕ → ℕ → Type 0) (i : ℕ) → r < unweighed → Pushed (λ d. (j : ℕ) × (j < i) × By j d) r p R P Q tail R₁ P₁ Q₁ t₁
      → ((d : ℕ) → By i d → ⊥) → Pushed (λ d. (j : ℕ) × (j < i + 1) × By j d) r p R P Q tail R₁ P₁ Q₁ t₁
  one_passed By i h x none = one_more By i h x (pushed_none x.room none)

-- the change with number i
module _ (many : Changes) (m : Machine) (p i : ℕ) where
  -- is to one setting
  once : (many : Changes) (v w u : ℕ) → Nth many m v i w → Nth many m v i u → w ≡ u
  once Multiple v w u x y = x.0 ∙ sym y.0
  once Single v w u x y = x ∙ sym y

  -- offers what it visits
  pub nth_made : {w r q : ℕ} {R P Q R₁ P₁ Q₁ : List ℕ} {tail t₁ : ℕ} → Told many m (p % size m) i (Some w)
      → Pushed (ByChange m (p / size m) w) r q R P Q tail R₁ P₁ Q₁ t₁ → Pushed (ByNth many m p i) r q R P Q tail R₁ P₁ Q₁ t₁
  nth_made {w} (n, may) x = pushed_as
      (λ d b. (w, n, (may, b)))
      (λ d (u, k, (_, b)). subst (λ (s : ℕ). ByChange m (p / size m) s d) (once many (p % size m) u w k n) b)
      x

  -- or is none
  pub nth_none : Told many m (p % size m) i None → (d : ℕ) → ByNth many m p i d → ⊥
  nth_none none d (w, n, (may, b)) = none w n may

-- and is to one of the settings
pub nth_below : (many : Changes) (m : Machine) {v i w : ℕ} → v < size m → i < tried many m → Told many m v i (Some w) → w < size m
nth_below Multiple m h l ((e, k), may) = rw e l
nth_below Single m {v} {i} h l (e, may) = rw e (flip_small m.inputs v i l h)

-- those tried, from a couple at rest, are all of their kind
module _ (m : Machine) (p : ℕ) (rests : get_or m.table p 0 ≡ p / size m) where
  from : p % size m < size m
  from = mod-lt p (pow_pos m.inputs)

  to : (many : Changes) (d : ℕ) → ByFirst many m p (tried many m) d → ByRest many m p d
  to Multiple d (i, l, (w, (e, k), b)) = (rests, w, subst (λ (s : ℕ). s < size m) (sym e) l, k, b)
  to Single d (i, l, (w, e, b)) =
      let below = flip_small m.inputs (p % size m) i l from in
      let one = flip_differs m.inputs (p % size m) i l in
      (rests, w, subst (λ (s : ℕ). s < size m) (sym e) below, rw e one, b)

  of : (many : Changes) (d : ℕ) → ByRest many m p d → ByFirst many m p (tried many m) d
  of Multiple d (_, w, l, k, b) = (w, l, (w, (refl, k), b))
  of Single d (_, w, l, k, b) =
      let (j, h, f) = differs_flip m.inputs (p % size m) w from l k in
      (j, h, (w, f, b))

  pub all_tried : (many : Changes) {r q : ℕ} {R P Q R₁ P₁ Q₁ : List ℕ} {tail t₁ : ℕ} → Pushed (ByFirst many m p (tried many m)) r q R P Q tail R₁ P₁ Q₁ t₁ → Pushed (ByRest many m p) r q R P Q tail R₁ P₁ Q₁ t₁
  all_tried many x = pushed_as (to many) (of many) x

-- an input is flipped by an exclusive or with its weight
pub flip_xor : (v i : ℕ) → bit_xor v (2 ^ i) ≡ flipped v (2 ^ i)
unfolding flipped
flip_xor v i =
    let e = xor_add_and v (2 ^ i) in
    ⊎_elim
    (λ (q : bit_at v i ≡ 0). let f = rw q at (and_pow v i) in rw (eq-eqb (v / 2 ^ i % 2) 0 q) (omega (arith, e, f)))
    (λ (q : bit_at v i ≡ 0 → ⊥). let o : bit_at v i ≡ 1 = omega (arith, bit_at-lt v i) in let f = rw o at (and_pow v i) in rw (ne_eqb (v / 2 ^ i % 2) 0 q) (omega (arith, e, f)))
    (equal_or (bit_at v i) 0)

-- of the machine of a frame
module _ (several : Bool) (f : Frame) (T : List ℕ) where
  -- a flip is a change that a run may make if the setting is not ruled out
  pub told_single : (v i : ℕ) {to : ℕ} {free : Bool} → i < f.inputs → to ≡ flipped v (2 ^ i) → free ≡ usable f to → Told Single (machine_by several f T) v i (then_some free to)
  told_single v i {to} {free} l e u = by free (machine_flips f T several v i l ∙ sym (u ∙ ap (usable f) e))
    where
      by : (free : Bool) → (machine_by several f T).may_change v (flipped v (2 ^ i)) ≡ free → Told Single (machine_by several f T) v i (then_some free to)
      by true g = (e, subst (λ (w : ℕ). (machine_by several f T).may_change v w ≡ true) (sym e) g)
      by false g = λ w n may. true≢false (sym (subst (λ (x : ℕ). (machine_by several f T).may_change v x ≡ true) n may) ∙ g)

  -- a multiple change is one if several may change at once, too
  pub many_made : (v w : ℕ) {free : Bool} → several ≡ true → 1 < differing f.inputs v w → free ≡ usable f w → Decides ((1 < differing f.inputs v w) × ((machine_by several f T).may_change v w ≡ true)) free
  many_made v w s k u = record {
    holds = λ e. (k, (and-eq-true_iff (usable f w) (may_alter several (differing f.inputs v w))).1 (sym u ∙ e, rw s (lt-ltb 0 (differing f.inputs v w) (omega arith))));
    fails = λ e (_, b). true≢false (sym ((and-eq-true_iff (usable f w) (may_alter several (differing f.inputs v w))).0 b).0 ∙ sym u ∙ e);
  }

  pub many_none : (v w : ℕ) → several ≡ false → Decides ((1 < differing f.inputs v w) × ((machine_by several f T).may_change v w ≡ true)) false
  many_none v w s = it_fails λ (k, b).
      let a = ((and-eq-true_iff (usable f w) (may_alter several (differing f.inputs v w))).0 b).1 in
      omega (arith, eqb-true (differing f.inputs v w) 1 (rw s at a))
