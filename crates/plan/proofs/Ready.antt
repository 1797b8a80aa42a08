-- What marking tells when it refuses nothing: its weights and parents are those of the definitions, and all that the writers ask for is
-- there.
use mathlib.Core.Path.{◌≡◌, refl}
use mathlib.Core.Logic.{inl}
use mathlib.Core.List.{List, []}
use Prim.Native.Nat.{ℕ, ◌%◌, ◌≤◌, ◌<◌}
use native.Mathlib.Nat.{div-lt_iff_lt-mul}
use native.Mathlib.Omega.{arith}
use lib.ListN.{length, get_or}
use lib.Arith.{digits_lt}
use lib.Pow.{pow_pos}
use Rattle.verdict.specs.Checks.{Passed, Judged}
use Rattle.verdict.specs.Buffers.{Filled}
use Rattle.verdict.specs.declared.Answer.{Answer}
use Rattle.verdict.proofs.Order.{judged_passes}
use Rattle.machine.specs.Limits.{most_couples, unmarked}
use Rattle.machine.specs.Runs.{Machine, size, couples, RankOrUnmarked}
use Rattle.machine.proofs.Couples.{settings_bound}
use Rattle.machine.proofs.Sizes.{couples_few}
use Rattle.tables.specs.Tables.{Checked}
use Rattle.several.specs.Several.{singly}
use Rattle.several.specs.Weights.{extra, unweighed}
use Rattle.several.proofs.Listed.{listed_short, parent_below}
use Rattle.marking.specs.Marking.{mark_checks, ParentedAs}
use Rattle.marking.proofs.Checks.{mark_checked, without_parents}
use Rattle.plan.specs.inner.Writing.{Tree}
use Rattle.plan.specs.inner.Choosing.{Room}
use Rattle.plan.proofs.Visits.{Told}

-- marking refused nothing, and left ranks, weights and parents
pub record Ready (m : Machine) (ranks₀ ranks₁ weights parents : List ℕ) (a : Answer) : Type 0 where
  pub verdict : Judged (mark_checks m (length ranks₀)) Passed a
  pub accepted : a.number ≡ 0
  pub checked : Checked m
  pub weights_long : couples m ≤ length weights
  pub parents_long : couples m ≤ length parents
  pub ranks : Filled (couples m) (RankOrUnmarked (singly m)) ranks₀ ranks₁
  pub told : Told m weights parents

-- it answered with that, having been lent as many weights and parents as a machine can have couples
pub ready : {m : Machine} {ranks₀ weights₀ parents₀ ranks₁ weights₁ parents₁ : List ℕ} {a : Answer} → ParentedAs m ranks₀ weights₀ parents₀ a ranks₁ weights₁ parents₁
    → length weights₀ ≡ most_couples → length parents₀ ≡ most_couples → a.number ≡ 0
    → Ready m ranks₀ ranks₁ weights₁ parents₁ a
ready {m} p weighs lent e =
    let v = without_parents weighs lent p in
    let k = mark_checked m [] (judged_passes 13 v refl e) in
    let few = couples_few k.tabled.sized in
    let w = p.weights.filled (inl e) in
    let s = p.parents.filled (inl e) in
    record {
      verdict = v;
      accepted = e;
      checked = k;
      weights_long = omega (arith, w.same_length, few);
      parents_long = omega (arith, s.same_length, few);
      ranks = p.ranks.filled (inl e);
      told = record { sound = k.sound; few = few; weight = w.needed; parent = s.needed };
    }

-- its weights and parents are fit to write runs by
module _ {m : Machine} {ranks₀ R W P : List ℕ} {a : Answer} (y : Ready m ranks₀ R W P a) where
  tree : Tree P (size m) (couples m)
  tree =
      let x = y.told in
      record {
        some = pow_pos m.inputs;
        small = settings_bound y.checked.tabled.sized.few_inputs;
        long = y.parents_long;
        parent = λ c h. parent_below x.sound x.few h (x.weight c h) (x.parent c h);
      }

  -- runs are short enough to be stored
  pub run_short_lem : (c : ℕ) → c < couples m → (get_or W c 0 ≡ unweighed → ⊥) → get_or W c 0 % extra < unmarked
  run_short_lem c h n = let x = y.told in omega (arith, listed_short x.sound x.few W P x.weight x.parent c h n, x.few)

  pub room : Room m.table P W (size m) (couples m)
  room =
      let x = y.told in
      record {
        tree = tree;
        few = x.few;
        table_long = y.checked.tabled.long;
        weights_long = y.weights_long;
        row = λ c v k l. digits_lt ((div-lt_iff_lt-mul (pow_pos m.inputs)).1 k) l;
        moved = λ c v k l. digits_lt (y.checked.sound.closed c k) l;
        short = run_short_lem;
      }
