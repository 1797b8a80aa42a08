-- What a run, the plan and the list end with, in one shape: the verdict of marking goes on with the later checks, or ends it. Check 16 of
-- a list that is right fails exactly where it is longer than the buffer.
use mathlib.Core.Path.{◌≡◌, refl, ap}
use mathlib.Core.Logic.{◌⊎◌, inl, inr}
use mathlib.Core.List.{List, [], ◌∷◌, ◌++◌}
use mathlib.Core.Bool.{Bool, true, false}
use Prim.Native.Nat.{ℕ, ◌+◌, ◌%◌, ◌≤◌, ◌<◌}
use native.Mathlib.Omega.{arith}
use lib.ListN.{length, get_or}
use Rattle.verdict.specs.Checks.{Check, check, Unless, Judged}
use Rattle.verdict.specs.Buffers.{Left, Written}
use Rattle.verdict.specs.declared.Answer.{Answer}
use Rattle.verdict.proofs.Tests.{whole, meets}
use Rattle.verdict.proofs.Order.{judged_on, judged_stop, pass, halt}
use Rattle.verdict.proofs.Fills.{left_filled, written_nothing, written_done}
use Rattle.machine.specs.Limits.{most_couples, unmarked}
use Rattle.machine.specs.Runs.{Machine, size, couples, Marked, Rank, RankOrUnmarked}
use Rattle.machine.proofs.Small.{rank_unique}
use Rattle.several.specs.Several.{singly}
use Rattle.several.specs.Weights.{extra, unweighed}
use Rattle.marking.specs.Marking.{mark_checks, ParentedAs}
use Rattle.marking.proofs.Checks.{without_parents}
use Rattle.plan.specs.Planning.{ShortRun, RunDone, ShortOf, WholeDone}
use Rattle.plan.specs.inner.Writing.{settings, Ends, unvisited_by, RunEnds}
use Rattle.plan.proofs.Bytes.{is_marked, not_marked}
use Rattle.plan.proofs.Ready.{Ready}

-- how a function ends that fills ranks of machine k, goes on after marking with later checks, and writes a list of which Is holds
pub record Ended (m k : Machine) (later : List Check) (done : Answer → Type 0) (Is : List ℕ → Type 0) (ranks₀ out₀ : List ℕ) (a : Answer) (ranks₁ out₁ : List ℕ) : Type 0 where
  pub verdict : Judged (mark_checks m (length ranks₀) ++ later) done a
  pub ranks : Left a.number (couples m) unmarked (RankOrUnmarked k) ranks₀ ranks₁
  pub written : Written a.number Is out₀ out₁

-- marking refused
pub refused : {m : Machine} {ranks₀ weights₀ parents₀ ranks₁ weights₁ parents₁ : List ℕ} {a : Answer} → ParentedAs m ranks₀ weights₀ parents₀ a ranks₁ weights₁ parents₁
    → length weights₀ ≡ most_couples → length parents₀ ≡ most_couples → (a.number ≡ 0 → ⊥)
    → {later : List Check} {done : Answer → Type 0} {Is : List ℕ → Type 0} {out : List ℕ} → Ended m (singly m) later done Is ranks₀ out a ranks₁ out
refused p weighs lent no_zero = record { verdict = judged_stop _ (without_parents weighs lent p) no_zero; ranks = p.ranks; written = written_nothing no_zero }

-- check 16 of the list w: what it refuses with, where there is too little room, and what success tells
pub record Sixteen (w : List ℕ) (room : ℕ) (short : ℕ → Type 0) (done : Answer → Type 0) : Type 0 where
  pub refuses : room < length w → short (length w)
  pub only : (p : ℕ) → short p → (p ≡ length w) × (room < length w)
  pub succeeds : done (record { number = 0; place = length w })

-- of a list that alone is right
pub whole_sixteen : {Is : List ℕ → Type 0} {w : List ℕ} {room : ℕ} → ((u : List ℕ) → Is u → u ≡ w) → Is w → Sixteen w room (ShortOf Is room) (WholeDone Is)
whole_sixteen {Is} {w} {room} one is = record {
  refuses = λ l. (w, is, (refl, l));
  only = λ p (u, i, s). let e = ap length (one u i) in (omega (arith, s.0), omega (arith, s.1));
  succeeds = record { number = refl; bytes = w; is = is; place = refl };
}

-- and of a run by the rank of its couple
pub rank_sixteen : {m : Machine} {c r : ℕ} {w : List ℕ} {room : ℕ} → Rank m c r → length w ≡ r + 1 → Sixteen w room (ShortRun m c room) (RunDone m c)
rank_sixteen {m} {c} {r} x l = record {
  refuses = λ h. (r, x, (l, omega arith));
  only = λ p (k, z, s). let e = rank_unique x z in (omega (arith, s.0), omega (arith, s.1));
  succeeds = record { number = refl; rank = r; ranked = x; place = l };
}

module _ {w out : List ℕ} where
  sixteen_judged : {short : ℕ → Type 0} {done : Answer → Type 0} {b : Answer} {out₁ : List ℕ} → Sixteen w (length out) short done → Ends w out b out₁ → Judged (check 16 short ∷ []) done b
  sixteen_judged s (Ends.short l) = halt (record { here = s.refuses l; first = λ q h z. omega (arith, (s.only q z).0) })
  sixteen_judged s (Ends.fits l f) = pass (record { nowhere = λ q z. omega (arith, (s.only q z).1) }) (record { verdict = s.succeeds })

  ends_late : {b : Answer} {out₁ : List ℕ} → Ends w out b out₁ → (b.number ≡ 0) ⊎ (14 ≤ b.number)
  ends_late (Ends.short l) = inr (omega arith)
  ends_late (Ends.fits l f) = inl refl

  ends_written : {Is : List ℕ → Type 0} {b : Answer} {out₁ : List ℕ} → Is w → Ends w out b out₁ → Written b.number Is out out₁
  ends_written is (Ends.short l) = written_nothing (λ e. omega arith)
  ends_written is (Ends.fits l f) = written_done refl f is

unvisited_late : (several : Bool) → 14 ≤ unvisited_by several
unvisited_late true = omega arith
unvisited_late false = omega arith

module _ {m : Machine} {ranks₀ R W P : List ℕ} {a : Answer} (y : Ready m ranks₀ R W P a) where
  -- the later checks decide
  onward : {cs : List Check} {done : Answer → Type 0} {Is : List ℕ → Type 0} {b : Answer} {out out₁ : List ℕ} → Judged cs done b → (b.number ≡ 0) ⊎ (14 ≤ b.number) → Written b.number Is out out₁
      → Ended m (singly m) cs done Is ranks₀ out b R out₁
  onward v l w = record { verdict = judged_on 13 y.verdict refl y.accepted v; ranks = left_filled l y.ranks; written = w }

  -- a list that is written whole or not at all
  pub whole_ended : {Is : List ℕ → Type 0} {w out out₁ : List ℕ} {b : Answer} → ((u : List ℕ) → Is u → u ≡ w) → Is w → Ends w out b out₁
      → Ended m (singly m) (check 16 (ShortOf Is (length out)) ∷ []) (WholeDone Is) Is ranks₀ out b R out₁
  whole_ended one is e = onward (sixteen_judged (whole_sixteen one is) e) (ends_late e) (ends_written is e)

  -- the run to couple c
  module _ {c : ℕ} {run : List ℕ} {short : ℕ → Type 0} {done : Answer → Type 0} {Is : List ℕ → Type 0}
      (right : c < couples m → (get_or W c 0 ≡ unweighed → ⊥) → Sixteen (settings P (size m) c (get_or W c 0 % extra + 1)) (length run) short done × Is (settings P (size m) c (get_or W c 0 % extra + 1))) where
    pub run_ended : {several : Bool} {b : Answer} {run₁ : List ℕ} → RunEnds several W P (size m) (couples m) c run b run₁
        → Ended m (singly m) (check 14 (Unless (c < couples m)) ∷ check (unvisited_by several) (Unless (Marked m c)) ∷ check 16 short ∷ []) done Is ranks₀ run b R run₁
    run_ended (RunEnds.outside h) = onward (halt (whole (λ l. omega arith))) (inr (omega arith)) (written_nothing (λ e. omega arith))
    run_ended {several} (RunEnds.unvisited h e) =
        let late = unvisited_late several in
        onward (pass (meets h) (halt (whole (not_marked y.told c h e)))) (inr late) (written_nothing (λ e. omega arith))
    run_ended (RunEnds.visited h u e) =
        let (s, is) = right h u in
        onward (pass (meets h) (pass (meets (is_marked y.told c h u)) (sixteen_judged s e))) (ends_late e) (ends_written is e)
