-- Each way in which a run, the plan and the list end keeps its promise, where several inputs may change at once and where not: what is
-- written is right, and no other list is.
use mathlib.Core.Path.{◌≡◌, sym, ap, subst, ◌∙◌}
use mathlib.Core.List.{List, [], ◌∷◌}
use mathlib.Core.Bool.{Bool, true, false}
use Prim.Native.Nat.{ℕ, ◌+◌, ◌%◌, ◌^◌, ◌<◌}
use native.Mathlib.Numerals.{add-one}
use native.Mathlib.Omega.{arith}
use lib.ListN.{length, get_or}
use Rattle.verdict.specs.Checks.{Check, check, Unless}
use Rattle.verdict.specs.Refusals.{refused_by}
use Rattle.verdict.specs.declared.Answer.{Answer}
use Rattle.verdict.specs.declared.Refusal.{Refusal}
use Rattle.verdict.proofs.Refusals.{refusal_number}
use Rattle.verdict.proofs.Fills.{left_map}
use Rattle.machine.specs.Limits.{most_couples}
use Rattle.machine.specs.Runs.{Machine, machine_by, size, couples, Sound, Marked, RankOrUnmarked}
use Rattle.machine.specs.Shortest.{RunTo}
use Rattle.machine.specs.Plans.{stored}
use Rattle.machine.specs.declared.Frame.{Frame}
use Rattle.machine.proofs.Plans.{plan_unique}
use Rattle.several.specs.Several.{singly, MultiRunTo}
use Rattle.several.specs.Lists.{MultiList, stored_list}
use Rattle.several.specs.Weights.{extra, unweighed}
use Rattle.several.proofs.Runs.{multi_unique}
use Rattle.several.proofs.Single.{singly_sound, singly_by}
use Rattle.several.proofs.Listed.{rank_of_lem}
use Rattle.several.proofs.Lists.{list_unique}
use Rattle.marking.specs.Marking.{ParentedAs}
use Rattle.plan.specs.Planning.{ShortRun, RunDone, PlanBytes, ShortOf, WholeDone}
use Rattle.plan.specs.Multi.{ListBytes}
use Rattle.plan.specs.inner.Writing.{unvisited_by, Ends, RunEnds}
use Rattle.plan.specs.inner.Choosing.{whole_plan}
use Rattle.plan.specs.inner.Both.{RunBy, PlanBy}
use Rattle.plan.proofs.Chains.{length_settings}
use Rattle.plan.proofs.Visits.{Told}
use Rattle.plan.proofs.Noted.{run_of, run_of_lem}
use Rattle.plan.proofs.Bytes.{run_single, plan_made, list_made}
use Rattle.plan.proofs.Ready.{Ready}
use Rattle.plan.proofs.Endings.{Ended, refused, Sixteen, whole_sixteen, rank_sixteen, whole_ended, run_ended}

-- the stored plan is one
pub bytes_unique : {m : Machine} → Sound m → {w u : List ℕ} → PlanBytes m w → PlanBytes m u → w ≡ u
bytes_unique ok (p, x, e) (q, z, f) = e ∙ ap stored (plan_unique ok x z) ∙ sym f

-- and so is the stored list
pub list_bytes_unique : {m : Machine} → Sound m → {w u : List ℕ} → ListBytes m w → ListBytes m u → w ≡ u
list_bytes_unique {m} ok (p, k, x, y, e) (q, l, z, v, f) =
    let same = plan_unique (singly_sound ok) x z in
    e ∙ ap (stored_list m) (list_unique ok (subst (λ (r : List (List ℕ)). MultiList m r (couples m) k) same y) v) ∙ sym f

-- what is written, refused by 16 and told by success
abbrev run_is : Bool → Machine → ℕ → List ℕ → Type 0
run_is true m c = MultiRunTo m c
run_is false m c = RunTo m c

abbrev run_short : Bool → Machine → ℕ → ℕ → ℕ → Type 0
run_short true m c = ShortOf (MultiRunTo m c)
run_short false m c = ShortRun m c

abbrev run_done : Bool → Machine → ℕ → Answer → Type 0
run_done true m c = WholeDone (MultiRunTo m c)
run_done false m c = RunDone m c

abbrev run_later : Bool → Machine → ℕ → ℕ → List Check
run_later several m c room = check 14 (Unless (c < couples m)) ∷ check (unvisited_by several) (Unless (Marked m c)) ∷ check 16 (run_short several m c room) ∷ []

abbrev plan_is : Bool → Machine → List ℕ → Type 0
plan_is true m = ListBytes m
plan_is false m = PlanBytes m

plan_one : (several : Bool) {m : Machine} → Sound m → (w u : List ℕ) → plan_is several m w → plan_is several m u → w ≡ u
plan_one true ok w u = list_bytes_unique ok
plan_one false ok w u = bytes_unique ok

-- each shape of ending is a promise; where every change is single the ranks are the machine's
run_as : (several : Bool) (f : Frame) (T : List ℕ) {c : ℕ} {ranks₀ run ranks₁ run₁ : List ℕ} {a : Answer}
    → Ended (machine_by several f T) (singly (machine_by several f T)) (run_later several (machine_by several f T) c (length run)) (run_done several (machine_by several f T) c) (run_is several (machine_by several f T) c) ranks₀ run a ranks₁ run₁
    → RunBy several f T c ranks₀ run a ranks₁ run₁
run_as true f T e = record { verdict = e.verdict; ranks = e.ranks; run = e.written }
run_as false f T e = record { verdict = e.verdict; ranks = left_map (λ c x. subst (λ (m : Machine). RankOrUnmarked m c x) (singly_by false f T)) e.ranks; run = e.written }

plan_as : (several : Bool) (f : Frame) (T : List ℕ) {ranks₀ out ranks₁ out₁ : List ℕ} {a : Answer}
    → Ended (machine_by several f T) (singly (machine_by several f T)) (check 16 (ShortOf (plan_is several (machine_by several f T)) (length out)) ∷ []) (WholeDone (plan_is several (machine_by several f T))) (plan_is several (machine_by several f T)) ranks₀ out a ranks₁ out₁
    → PlanBy several f T ranks₀ out a ranks₁ out₁
plan_as true f T e = record { verdict = e.verdict; ranks = e.ranks; list = e.written }
plan_as false f T e = record { verdict = e.verdict; ranks = left_map (λ c x. subst (λ (m : Machine). RankOrUnmarked m c x) (singly_by false f T)) e.ranks; plan = e.written }

-- marking refused
module _ (several : Bool) (f : Frame) (T : List ℕ) (r : Refusal) {ranks₀ weights₀ parents₀ ranks₁ weights₁ parents₁ : List ℕ}
    (p : ParentedAs (machine_by several f T) ranks₀ weights₀ parents₀ (refused_by r) ranks₁ weights₁ parents₁) (weighs : length weights₀ ≡ most_couples) (lent : length parents₀ ≡ most_couples) where
  pub run_refused : (c : ℕ) (run : List ℕ) → RunBy several f T c ranks₀ run (refused_by r) ranks₁ run
  run_refused c run = run_as several f T (refused p weighs lent (λ e. omega (arith, refusal_number r)))

  pub plan_refused : (out : List ℕ) → PlanBy several f T ranks₀ out (refused_by r) ranks₁ out
  plan_refused out = plan_as several f T (refused p weighs lent (λ e. omega (arith, refusal_number r)))

-- by weights and parents, the run to a couple and the plan or list are right
run_right : (several : Bool) (f : Frame) (T : List ℕ) {W P : List ℕ} (x : Told (machine_by several f T) W P) (c room : ℕ)
    → let m = machine_by several f T in
    c < couples m → (get_or W c 0 ≡ unweighed → ⊥) → Sixteen (run_of x c) room (run_short several m c room) (run_done several m c) × run_is several m c (run_of x c)
run_right true f T x c room h n = let r = run_of_lem x c h n in (whole_sixteen (λ u i. multi_unique x.sound c u _ i r) r, r)
run_right false f T {W} {P} x c room h n =
    let r = run_single x (singly_by false f T) c h n in
    let l = length_settings P (2 ^ f.inputs) (get_or W c 0 % extra + 1) c in
    (rank_sixteen (rank_of_lem r (l ∙ add-one _)) l, r)

plan_right : (several : Bool) (f : Frame) (T : List ℕ) {W P : List ℕ} → Told (machine_by several f T) W P
    → let m = machine_by several f T in
    plan_is several m (whole_plan several T P W (size m) (couples m))
plan_right true f T x = list_made x
plan_right false f T x = plan_made x (singly_by false f T)

module _ (several : Bool) (f : Frame) (T : List ℕ) {ranks₀ R W P : List ℕ} {a : Answer} (y : Ready (machine_by several f T) ranks₀ R W P a) where
  abbrev m : Machine
  m = machine_by several f T

  pub run_ends : {c : ℕ} {run run₁ : List ℕ} {b : Answer} → RunEnds several W P (size m) (couples m) c run b run₁ → RunBy several f T c ranks₀ run b R run₁
  run_ends {c} {run} e = run_as several f T (run_ended y (run_right several f T y.told c (length run)) e)

  pub plan_ends : {out out₁ : List ℕ} {b : Answer} → Ends (whole_plan several T P W (size m) (couples m)) out b out₁ → PlanBy several f T ranks₀ out b R out₁
  plan_ends e =
      let is = plan_right several f T y.told in
      plan_as several f T (whole_ended y (λ u i. plan_one several y.told.sound u _ i is) is e)
