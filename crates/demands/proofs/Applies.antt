-- Demand 3 by its own hypotheses: marking accepts a sound table with a start, so does the plan, which answers 0, or 16 with its length,
-- and expected readings accept each run of a plan. Each passes its checks one by one, and its verdict is one.
use mathlib.Core.Path.{◌≡◌, sym, subst}
use mathlib.Core.Logic.{◌⊎◌, ⊎_elim, inl, inr}
use mathlib.Core.List.{List, [], ◌∷◌}
use Prim.Native.Nat.{ℕ, ◌≤◌}
use native.Mathlib.Omega.{arith}
use lib.ListN.{length, take}
use Rattle.verdict.specs.Checks.{check, Then, refused, next}
use Rattle.verdict.specs.declared.Answer.{Answer}
use Rattle.verdict.proofs.Order.{Passes, judged_rest, long}
use Rattle.verdict.proofs.Tests.{meets}
use Rattle.machine.specs.Lists.{In}
use Rattle.machine.specs.Runs.{Machine, couples, Sound, Starts, Run}
use Rattle.machine.specs.Plans.{Plan, empty, pass as passed, add, runs_in}
use Rattle.machine.proofs.Members.{in_either}
use Rattle.machine.proofs.Soundness.{sound_states, sound_calm}
use Rattle.machine.proofs.Faults.{run_faultless}
use Rattle.machine.proofs.Small.{run_to_small}
use Rattle.machine.proofs.Plans.{plan_runs}
use Rattle.tables.specs.Tables.{Tabled, Checked}
use Rattle.machine.proofs.Sizes.{couples_few}
use Rattle.marking.specs.Marking.{mark_checks, MarkedAs}
use Rattle.plan.specs.Planning.{PlanBytes, ShortOf, WholeDone, PlannedAs}
use Rattle.plan.proofs.Held.{held_checked}
use Rattle.readings.specs.Expected.{longest_run, readings_needed, expected_checks, ExpectedAs}
use Rattle.demands.specs.Demand3.{RightRanks, LongPlan, Planned}
use Rattle.demands.proofs.Demand3.{ranks_right, held, plan_right, boards_told, sheets_tell}

-- a sound table with a start
module _ {m : Machine} (t : Tabled m) (ok : Sound m) {v : ℕ} (s : Starts m v) where
  accepted : {ranks : ℕ} → couples m ≤ ranks → Passes (mark_checks m ranks)
  accepted k = (meets t.sized, (long t.long, (long k, (sound_states ok, (sound_calm ok, (meets (v, s), tt))))))

  pub sound_marked : {ranks₀ ranks₁ : List ℕ} {a : Answer} → couples m ≤ length ranks₀ → MarkedAs m ranks₀ a ranks₁ → (a.number ≡ 0) × RightRanks m ranks₁
  sound_marked {ranks₀} k p =
      let e = (judged_rest (mark_checks m (length ranks₀)) {ds = []} (accepted k) p.verdict).verdict.number in (e, ranks_right p.ranks (inl e))

  pub sound_planned : {ranks₀ plan₀ ranks₁ plan₁ : List ℕ} {a : Answer} → couples m ≤ length ranks₀ → PlannedAs m ranks₀ plan₀ a ranks₁ plan₁
      → RightRanks m ranks₁ × (Planned m a plan₁ ⊎ LongPlan m (length plan₀) a)
  sound_planned {ranks₀} {plan₀} {ranks₁} {plan₁} {a} k p =
      by (judged_rest (mark_checks m (length ranks₀)) {ds = check 16 (ShortOf (PlanBytes m) (length plan₀)) ∷ []} (accepted k) p.verdict).verdict
    where
      by : Then (ShortOf (PlanBytes m) (length plan₀)) 16 (WholeDone (PlanBytes m) a) a → RightRanks m ranks₁ × (Planned m a plan₁ ⊎ LongPlan m (length plan₀) a)
      by (refused l n) = let (w, x, e) = l.here in
          (ranks_right p.ranks (inr (omega arith)), inr (record { number = n; bytes = w; planned = x; place = e.0; short = e.1 }))
      by (next n d) = (ranks_right p.ranks (inl d.number), inl (record { number = d.number; right = plan_right p d.number; tells = boards_told p d.number; by_sheets = sheets_tell p d.number }))

-- a run of a plan is no longer than there are couples
run_short_lem : {m : Machine} → Sound m → {t : ℕ} {plan : List (List ℕ)} → Plan m t plan → (vs : List ℕ) → In vs plan → length vs ≤ couples m
run_short_lem ok empty vs i = absurd i
run_short_lem ok (passed x f) vs i = run_short_lem ok x vs i
run_short_lem {m} ok (add {plan = plan} {vs = ws} x n r) vs i =
    ⊎_elim (λ j. run_short_lem ok x vs j) (⊎_elim (λ e. subst (λ l. length l ≤ couples m) (sym e) (run_to_small ok r)) absurd) (in_either vs plan (ws ∷ []) i)

-- expected readings refuse no run that has no more settings than there are couples, wherever there are words and room
pub run_expected : {m : Machine} → Checked m → {words run readings₀ readings₁ : List ℕ} {b : Answer} → Run m run → length run ≤ couples m → m.states ≤ length words → readings_needed run ≤ length readings₀
    → ExpectedAs m words run readings₀ b readings₁ → b.number ≡ 0
run_expected {m} c {words} {run} {readings₀} r l w k q =
    let t = c.tabled in
    let few : length run ≤ longest_run = omega (arith, couples_few t.sized) in
    (judged_rest (expected_checks m (length words) run (length readings₀)) {ds = []}
    (meets (record { sizes = t.sized; few_settings = few }), (long t.long, (long w, (long k, (sound_states c.sound, (sound_calm c.sound, (record { nowhere = (run_faultless m run).0 r }, tt)))))))
    q.verdict).verdict.number

-- so none of a plan
pub run_accepted : {m : Machine} {ranks₀ plan₀ ranks₁ plan₁ : List ℕ} {a : Answer} → PlannedAs m ranks₀ plan₀ a ranks₁ plan₁ → a.number ≡ 0
    → {words run readings₀ readings₁ : List ℕ} {b : Answer} → In run (runs_in (take a.place plan₁)) → m.states ≤ length words → readings_needed run ≤ length readings₀
    → ExpectedAs m words run readings₀ b readings₁ → b.number ≡ 0
run_accepted p e {run = run} i =
    let x = held p e in
    let c = held_checked p e in
    run_expected c (plan_runs x run i) (run_short_lem c.sound x run i)
