-- The runs of the first pass are the plan of single changes, or the list beside it: by its weight each couple is looked at exactly if it
-- is one of those that plan or list goes through.
use mathlib.Core.Path.{◌≡◌, sym, subst, ◌∙◌}
use mathlib.Core.Logic.{◌⊎◌, ⊎_elim, inl, inr}
use mathlib.Core.List.{List}
use mathlib.Core.Bool.{true, false}
use Prim.Native.Nat.{ℕ, ◌≤◌, ◌<◌}
use native.Mathlib.Omega.{arith}
use lib.ListN.{get_or}
use borrow.Author.Tests.{le-leb, lt-leb}
use Rattle.machine.specs.Runs.{Machine, size, couples, Marked}
use Rattle.machine.specs.Shortest.{RunTo}
use Rattle.machine.proofs.Order.{equal_or, below_or}
use Rattle.machine.proofs.Plans.{planned_plan}
use Rattle.several.specs.Several.{singly, MultiRunTo}
use Rattle.several.specs.Weights.{extra, unweighed}
use Rattle.several.proofs.Single.{singly_sound, multi_run}
use Rattle.several.proofs.Listed.{listed_none, weight_rank}
use Rattle.several.proofs.Lists.{plan_exists, planned_list}
use Rattle.plan.specs.Planning.{PlanBytes}
use Rattle.plan.specs.Multi.{ListBytes}
use Rattle.plan.specs.inner.Choosing.{looks_at, whole_plan}
use Rattle.plan.proofs.Turns.{looks_none, looks_plan, looks_list}
use Rattle.plan.proofs.Visits.{Told}
use Rattle.plan.proofs.Noted.{run_of, run_of_lem, plan_stored}

module _ {m : Machine} {W P : List ℕ} (x : Told m W P) where
  -- which couples runs visit, by their weights
  pub is_marked : (c : ℕ) → c < couples m → (get_or W c 0 ≡ unweighed → ⊥) → Marked m c
  is_marked c h n = (_, (run_of_lem x c h n).visitor)

  pub not_marked : (c : ℕ) → c < couples m → get_or W c 0 ≡ unweighed → Marked m c → ⊥
  not_marked = listed_none x.sound x.few W P x.weight x.parent

  -- where every change is single
  module _ (same : singly m ≡ m) where
    pub run_single : (c : ℕ) → c < couples m → (get_or W c 0 ≡ unweighed → ⊥) → RunTo m c (run_of x c)
    run_single c h n = subst (λ (k : Machine). RunTo k c (run_of x c)) same (multi_run x.sound (subst (λ (k : Machine). Marked k c) (sym same) (is_marked c h n)) (run_of_lem x c h n))

    pub plan_made : PlanBytes m (whole_plan false m.table P W (size m) (couples m))
    plan_made = (
      _,
      planned_plan (λ c. looks_at false (get_or W c 0)) (run_of x) (couples m) (λ c h. ⊎_elim
          (λ e. inr (looks_none false _ e, not_marked c h e))
          (λ n. inl (looks_plan _ n, run_single c h n))
          (equal_or (get_or W c 0) unweighed)),
      plan_stored x false _ x.few,
    )

  pub list_made : ListBytes m (whole_plan true m.table P W (size m) (couples m))
  list_made =
      let (plan, planned) = plan_exists (singly_sound x.sound) in
      (plan, _, planned, planned_list x.sound planned (λ c. looks_at true (get_or W c 0)) (run_of x) (couples m) looks, plan_stored x true _ x.few)
    where
      ranked : (c : ℕ) → c < couples m → get_or W c 0 < extra → Marked (singly m) c
      ranked c h l = ⊎_elim (λ r. (r.1.some, r.1.visitor)) (λ r. absurd (omega (arith, r.0))) (weight_rank x.sound x.few (x.weight c h))

      unranked : (c : ℕ) → c < couples m → extra ≤ get_or W c 0 → Marked (singly m) c → ⊥
      unranked c h l = ⊎_elim (λ r. absurd (omega (arith, r.0, x.few))) (λ r. r.1) (weight_rank x.sound x.few (x.weight c h))

      looks : (c : ℕ) → c < couples m
          → ((looks_at true (get_or W c 0) ≡ true) × (Marked (singly m) c → ⊥) × MultiRunTo m c (run_of x c))
          ⊎ ((looks_at true (get_or W c 0) ≡ false) × ((Marked (singly m) c → ⊥) → Marked m c → ⊥))
      looks c h = ⊎_elim
          (λ e. inr (looks_none true _ e, λ _. not_marked c h e))
          (λ n. ⊎_elim
          (λ l. inr (looks_list _ n ∙ lt-leb _ _ l, λ k. absurd (k (ranked c h l))))
          (λ l. inl (looks_list _ n ∙ le-leb _ _ l, unranked c h l, run_of_lem x c h n))
          (below_or (get_or W c 0) extra))
          (equal_or (get_or W c 0) unweighed)
