-- For a couple that single changes mark, the run where several inputs may change at once ends as document 01's does: the checks before are
-- the same, 15 and 20 do not fail, and the run is the same list.
use mathlib.Core.Path.{◌≡◌, refl, sym, ap, subst, ◌∙◌}
use mathlib.Core.List.{List, [], ◌∷◌, ◌++◌}
use mathlib.Core.Bool.{true}
use Prim.Native.Nat.{ℕ, ◌+◌, ◌<◌}
use native.Mathlib.Numerals.{add-one}
use native.Mathlib.Omega.{arith}
use lib.ListN.{length}
use Rattle.verdict.specs.Checks.{Check, check, Unless, refused, next, Judged, Verdict}
use Rattle.verdict.specs.declared.Answer.{Answer}
use Rattle.verdict.proofs.Tests.{meets}
use Rattle.verdict.proofs.Order.{Passes, judged_passes}
use Rattle.machine.specs.Runs.{Machine, machine_by, machine_of, couples, Sound, Marked, Rank}
use Rattle.machine.specs.declared.Frame.{Frame}
use Rattle.machine.proofs.Exists.{run_to_exists, marked_rank}
use Rattle.machine.proofs.Small.{run_to_rank}
use Rattle.several.specs.Several.{singly, MultiRunTo}
use Rattle.several.proofs.Runs.{multi_unique}
use Rattle.several.proofs.Single.{singly_sound, singly_by, visitor_of, run_multi}
use Rattle.marking.specs.Marking.{mark_checks}
use Rattle.marking.proofs.Checks.{mark_checked}
use Rattle.plan.specs.Planning.{ShortRun, run_checks, RunDone, RunAs, ShortOf, WholeDone}
use Rattle.plan.specs.Multi.{multi_checks, MultiAs}
use Rattle.plan.proofs.Once.{multi_run_to_only}

-- behind a front of checks that both have, one list of checks says what another does
module _ (ds es : List Check) (done end : Answer → Type 0) (a : Answer) where
  behind : (cs : List Check) → (Passes cs → Verdict ds done a → Verdict es end a) → Verdict (cs ++ ds) done a → Verdict (cs ++ es) end a
  behind [] f v = f tt v
  behind (c ∷ cs) f (refused l e) = refused l e
  behind (c ∷ cs) f (next n v) = next n (behind cs (λ p. f (n, p)) v)

module _ {m : Machine} {c : ℕ} (k : Marked (singly m) c) where
  module _ (ok : Sound m) where
    -- the run, its rank and its length
    found : (w : List ℕ) × MultiRunTo m c w × ((r : ℕ) → Rank (singly m) c r → length w ≡ r + 1)
    found =
        let (w, x) = run_to_exists (singly_sound ok) c k in
        (w, run_multi ok x, λ r y. run_to_rank (singly_sound ok) x y ∙ sym (add-one r))

    -- what it is refused with by 16
    short_of : {room p : ℕ} → ShortRun (singly m) c room p → ShortOf (MultiRunTo m c) room p
    short_of (r, x, s) = let (w, y, l) = found in (w, y, (s.0 ∙ sym (l r x), omega (arith, s.1, l r x)))

    of_short : {room p : ℕ} → ShortOf (MultiRunTo m c) room p → ShortRun (singly m) c room p
    of_short (u, i, s) =
        let (w, y, l) = found in
        let (r, x) = marked_rank (singly_sound ok) k in
        let e : length u ≡ r + 1 = ap length (multi_unique ok c u w i y) ∙ l r x in
        (r, x, (s.0 ∙ e, omega (arith, s.1)))

    -- and what success tells
    done_of : {a : Answer} → RunDone (singly m) c a → WholeDone (MultiRunTo m c) a
    done_of d = let (w, y, l) = found in record { number = d.number; bytes = w; is = y; place = d.place ∙ sym (l d.rank d.ranked) }

  marked : Marked m c
  marked = (k.0, visitor_of m k.1)

  judged_of : {ranks run : ℕ} {a : Answer} → Judged (run_checks (singly m) c ranks run) (RunDone (singly m) c) a → Judged (multi_checks m c ranks run) (WholeDone (MultiRunTo m c)) a
  judged_of {ranks} {run} {a} v = record {
    verdict = behind single multi (RunDone (singly m) c) (WholeDone (MultiRunTo m c)) a (mark_checks m ranks ++ fourteen) (λ p. late (mark_checked m fourteen p).sound) v.verdict;
  }
    where
      fourteen : List Check
      fourteen = check 14 (Unless (c < couples m)) ∷ []

      single : List Check
      single = check 15 (Unless (Marked (singly m) c)) ∷ check 16 (ShortRun (singly m) c run) ∷ []

      multi : List Check
      multi = check 20 (Unless (Marked m c)) ∷ check 16 (ShortOf (MultiRunTo m c) run) ∷ []

      late : Sound m → Verdict single (RunDone (singly m) c) a → Verdict multi (WholeDone (MultiRunTo m c)) a
      late ok (refused l e) = absurd (l.here.1 k)
      late ok (next n (refused l e)) = next (meets marked) (refused (record { here = short_of ok l.here; first = λ q h z. l.first q h (of_short ok z) }) e)
      late ok (next n (next o d)) = next (meets marked) (next (record { nowhere = λ q z. o.nowhere q (of_short ok z) }) (done_of ok d))

  as_multi : {ranks run ranks₁ run₁ : List ℕ} {a : Answer} → RunAs (singly m) c ranks run a ranks₁ run₁ → MultiAs m c ranks run a ranks₁ run₁
  as_multi {ranks} {run} {a = a} x = record {
    verdict = judged_of x.verdict;
    ranks = x.ranks;
    run = record { unchanged = x.run.unchanged; done = λ e. let (w, r, f) = x.run.done e in (w, run_multi (sound e) r, f) };
  }
    where
      sound : a.number ≡ 0 → Sound m
      sound e = (mark_checked m (check 14 (Unless (c < couples m)) ∷ check 15 (Unless (Marked (singly m) c)) ∷ check 16 (ShortRun (singly m) c (length run)) ∷ []) (judged_passes 16 x.verdict refl e)).sound

-- both functions, of one frame and table, over the same buffers
pub runs_alike : (f : Frame) (T : List ℕ) {c : ℕ} {ranks run ranks₁ run₁ ranks₂ run₂ : List ℕ} {a b : Answer} → Marked (machine_of f T) c
    → RunAs (machine_of f T) c ranks run a ranks₁ run₁ → MultiAs (machine_by true f T) c ranks run b ranks₂ run₂ → (a ≡ b) × (ranks₁ ≡ ranks₂) × (run₁ ≡ run₂)
runs_alike f T {c} {ranks} {run} {ranks₁} {run₁} {a = a} k x y =
    let e = sym (singly_by true f T) in
    multi_run_to_only (as_multi {m = machine_by true f T} (subst (λ (m : Machine). Marked m c) e k) (subst (λ (m : Machine). RunAs m c ranks run a ranks₁ run₁) e x)) y
