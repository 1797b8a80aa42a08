-- Where every state is reached and there is a start, and any two settings may follow one another, every couple has its run: by induction
-- on how its state is reached, each state rests at some setting at the end of a run.
use mathlib.Core.Path.{◌≡◌, refl, sym, ap, subst, ◌∙◌}
use mathlib.Core.Logic.{◌⊎◌, ⊎_elim, inl, inr}
use mathlib.Core.List.{List, [], ◌∷◌}
use mathlib.Core.Bool.{true}
use Prim.Native.Nat.{ℕ, ◌/◌, ◌%◌, ◌^◌, ◌<◌}
use native.Mathlib.Nat.{mod-lt, div-lt_iff_lt-mul}
use native.Mathlib.Omega.{arith}
use lib.Pow.{pow_pos}
use borrow.Author.Tests.{lt-ltb}
use Rattle.verdict.specs.Checks.{Nowhere, Unless}
use Rattle.machine.specs.Couples.{differing}
use Rattle.machine.specs.Moves.{table_moves, Reached, start, step, Unreached}
use Rattle.machine.specs.Runs.{Machine, usable, machine_by, size, couples, couple, move, Sound, Starts, Visitor, Marked}
use Rattle.machine.specs.inner.Trails.{Steps, Trail}
use Rattle.machine.specs.declared.Frame.{Frame}
use Rattle.machine.proofs.Order.{equal_or}
use Rattle.machine.proofs.Couples.{moves}
use Rattle.machine.proofs.Inputs.{none_differ}
use Rattle.machine.proofs.Tests.{whole}
use Rattle.machine.proofs.Trails.{along, trail_run}
use Rattle.machine.proofs.Exists.{search_below}
use Rattle.several.specs.Several.{MultiRunTo}
use Rattle.several.specs.inner.Lightest.{weight}
use Rattle.several.proofs.Along.{some_trail}
use Rattle.several.proofs.Loops.{loopless}
use Rattle.several.proofs.Weights.{weight_is, Hit, hit_or}
use Rattle.several.proofs.Runs.{multi_exists}

-- any setting may follow any other
abbrev pub Free : Machine → Type 0
Free m = (v w : ℕ) → v < size m → w < size m → (v ≡ w → ⊥) → m.may_change v w ≡ true

-- each state is reached, by any settings
abbrev pub AllReached : Machine → Type 0
AllReached m = Nowhere (Unreached (table_moves m.table (size m)) m.states (size m) m.initial)

-- there is a start
abbrev pub SomeStart : Machine → Type 0
SomeStart m = Nowhere (Unless ((v : ℕ) × Starts m v))

-- a run ends with state s at rest
record Resting (m : Machine) (s : ℕ) : Type 0 where
  state : s < m.states
  setting : ℕ
  below : setting < size m
  rests : move m s setting ≡ s
  path : List ℕ
  trail : Trail m (couple m s setting) path

module _ {m : Machine} (ok : Sound m) where
  -- whether some run visits a couple is decided
  pub marked_or : (c : ℕ) → Marked m c ⊎ (Marked m c → ⊥)
  marked_or c = ⊎_elim
      (λ f. let (ps, t, e) = f.found in inl (along m ps c, (trail_run c ps t).0))
      (λ none. inr (λ x. never none x.0 x.1))
      (search_below (λ k. Hit m 0 k c) (λ k. hit_or m 0 ok k c) (couples m))
    where
      never : ((k : ℕ) → k < couples m → Hit m 0 k c → ⊥) → (vs : List ℕ) → Visitor m c vs → ⊥
      never none vs x =
          let (ps, t, h, l) = some_trail ok c vs x in
          let r = loopless ok c ps t in
          none (weight m 0 c r.path) (omega (arith, r.few, weight_is m 0 c r.path)) (r.path, r.trail, refl)

  module _ (free : Free m) where
    -- a change to another setting
    change : (s u v d : ℕ) → u < size m → v < size m → (u ≡ v → ⊥) → move m s u ≡ s → (d ≡ couple m s v) ⊎ (d ≡ couple m (move m s v) v) → Steps m (couple m s u) d
    change s u v d l h n r e = record { state = s; from = u; to = v; below = l; here = refl; rests = r; change = record { below = h; allowed = free u v l h n }; visits = e }

    resting : {s : ℕ} → (v : ℕ) × Starts m v → Reached (table_moves m.table (size m)) (size m) m.initial s → Resting m s
    resting (v, x) start = record { state = ok.begins; setting = v; below = x.below; rests = x.rests; path = []; trail = (v, x, refl) }
    resting begin (step {s} {t} v r h e) =
        let x = resting begin r in
        ⊎_elim
        (λ f. subst (Resting m) (sym x.rests ∙ ap (λ (u : ℕ). move m s u) f ∙ e) x)
        (λ n. subst (Resting m) e (record {
          state = moves ok s v x.state h;
          setting = v;
          below = h;
          rests = ok.calm s v x.state h;
          path = couple m s x.setting ∷ x.path;
          trail = (x.trail, change s x.setting v _ x.below h n x.rests (inr refl));
        }))
        (equal_or x.setting v)

    reached_marked : (v : ℕ) × Starts m v → (s v : ℕ) → v < size m → Reached (table_moves m.table (size m)) (size m) m.initial s → Marked m (couple m s v)
    reached_marked begin s v h r =
        let x = resting begin r in
        ⊎_elim
        (λ f. (along m x.path (couple m s v), (trail_run (couple m s v) x.path (subst (λ (u : ℕ). Trail m (couple m s u) x.path) f x.trail)).0))
        (λ n. (along m (couple m s x.setting ∷ x.path) (couple m s v), (trail_run (couple m s v) (couple m s x.setting ∷ x.path) (x.trail, change s x.setting v _ x.below h n x.rests (inl refl))).0))
        (equal_or x.setting v)

    -- every couple is visited, and has its run
    pub all_marked : AllReached m → SomeStart m → (c : ℕ) → c < couples m → Marked m c
    all_marked all some c l = ⊎_elim
        (λ x. x)
        (λ n. absurd (some.nowhere 0 (
          refl,
          λ x. all.nowhere (c / size m) (record {
            state = (div-lt_iff_lt-mul (pow_pos m.inputs)).1 l;
            never = λ r. n (subst (Marked m) (sym (whole m c)) (reached_marked x (c / size m) (c % size m) (mod-lt c (pow_pos m.inputs)) r));
          }),
        )))
        (marked_or c)

    pub all_run : AllReached m → SomeStart m → (c : ℕ) → c < couples m → (vs : List ℕ) × MultiRunTo m c vs
    all_run all some c l = multi_exists ok c (all_marked all some c l)

-- where nothing is ruled out, changes of at least one input are free
pub several_free : (f : Frame) (table : List ℕ) → ((v : ℕ) → v < 2 ^ f.inputs → usable f v ≡ true) → Free (machine_by true f table)
several_free f table all v w h k n = rw (all w k)
    (lt-ltb 0 (differing f.inputs v w) (⊎_elim (λ e. absurd (n (none_differ f.inputs v w h k e))) (λ (e : differing f.inputs v w ≡ 0 → ⊥). omega arith) (equal_or (differing f.inputs v w) 0)))
