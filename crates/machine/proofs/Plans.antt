-- The plan is one plan, visits every marked couple and no other, and is what the computation gives: by induction on the couples gone
-- through.
use mathlib.Core.Path.{◌≡◌, refl, sym, ap₂, subst}
use mathlib.Core.Logic.{◌⊎◌, ⊎_elim, inl, inr}
use mathlib.Core.List.{List, [], ◌∷◌, ◌++◌}
use mathlib.Core.Bool.{Bool, true, false}
use Prim.Native.Nat.{ℕ, zero, suc, ◌<◌}
use native.Mathlib.Nat.{le_refl}
use native.Mathlib.Omega.{arith}
use lib.ListN.{get_or}
use borrow.Author.Tests.{ne_eqb}
use Rattle.machine.specs.Limits.{unmarked}
use Rattle.machine.specs.Lists.{In}
use Rattle.machine.specs.Runs.{Machine, couples, Sound, Run, visits, Marked}
use Rattle.machine.specs.Shortest.{RunTo}
use Rattle.machine.specs.inner.Model.{among, visited, planned, plan_of, Listed}
use Rattle.machine.specs.Plans.{VisitedBy, Plan}
use Rattle.machine.specs.Plans.Plan.{empty, pass, add}
use Rattle.machine.proofs.Members.{in_front, in_back, in_either}
use Rattle.machine.proofs.Order.{equal_or}
use Rattle.verdict.specs.Checks.{Decides}
use Rattle.verdict.proofs.Tests.{it_fails, decides_map, decides_equal, decides_either, decides_cases}
use Rattle.machine.proofs.Shortest.{run_to_unique, followed_run}

longer : (m : Machine) (c : ℕ) (plan : List (List ℕ)) (ws : List ℕ) → VisitedBy m c plan → VisitedBy m c (plan ++ (ws ∷ []))
longer m c plan ws (vs, i, j) = (vs, in_front vs plan (ws ∷ []) i, j)

module _ {m : Machine} (ok : Sound m) where
  pub plan_unique : {t : ℕ} {p q : List (List ℕ)} → Plan m t p → Plan m t q → p ≡ q
  plan_unique empty empty = refl
  plan_unique (pass x f) (pass y g) = plan_unique x y
  plan_unique (pass {c} x f) (add {vs = vs} y n r) = absurd (n (subst (VisitedBy m c) (plan_unique x y) (f (vs, r.visitor))))
  plan_unique (add {c} {vs = vs} x n r) (pass y g) = absurd (n (subst (VisitedBy m c) (sym (plan_unique x y)) (g (vs, r.visitor))))
  plan_unique (add {c} {plan} {vs} x n r) (add {plan = q} {vs = ws} y k s) =
      ap₂ (λ (a : List (List ℕ)) (b : List ℕ). a ++ (b ∷ [])) (plan_unique x y) (run_to_unique ok c vs ws r s)

-- each member is a run
pub plan_runs : {m : Machine} {t : ℕ} {p : List (List ℕ)} → Plan m t p → (vs : List ℕ) → In vs p → Run m vs
plan_runs empty vs i = absurd i
plan_runs (pass x f) vs i = plan_runs x vs i
plan_runs {m} (add {plan = plan} {vs = ws} x n r) vs i = ⊎_elim (λ j. plan_runs x vs j) (⊎_elim (λ e. subst (Run m) (sym e) r.visitor.run) absurd) (in_either vs plan (ws ∷ []) i)

-- each marked couple below t is visited
pub plan_visits : {m : Machine} {t : ℕ} {p : List (List ℕ)} → Plan m t p → (c : ℕ) → c < t → Marked m c → VisitedBy m c p
plan_visits empty c l x = absurd (omega arith)
plan_visits {m} (pass {c = d} {plan = plan} y f) c l x = ⊎_elim
    (λ e. subst (λ (k : ℕ). VisitedBy m k plan) (sym e) (f (subst (Marked m) e x)))
    (λ (e : c ≡ d → ⊥). plan_visits y c (omega arith) x)
    (equal_or c d)
plan_visits {m} (add {c = d} {plan = plan} {vs = vs} y n r) c l x = ⊎_elim
    (λ e. (vs, in_back vs plan (vs ∷ []) (inl refl), subst (λ (k : ℕ). In k (visits m vs)) (sym e) r.visitor.sees))
    (λ (e : c ≡ d → ⊥). longer m c plan vs (plan_visits y c (omega arith) x))
    (equal_or c d)

-- and no couple that is not marked
pub plan_marked : {m : Machine} {t : ℕ} {p : List (List ℕ)} → Plan m t p → (c : ℕ) → VisitedBy m c p → Marked m c
plan_marked x c (vs, i, j) = (vs, record { run = plan_runs x vs i; sees = j })

among_or : (c : ℕ) (ds : List ℕ) → Decides (In c ds) (among c ds)
unfolding among
among_or c [] = it_fails (λ i. i)
among_or c (d ∷ ds) = decides_either (decides_equal c d) (among_or c ds)

pub visited_or : (m : Machine) (c : ℕ) (plan : List (List ℕ)) → Decides (VisitedBy m c plan) (visited m c plan)
unfolding visited
visited_or m c [] = it_fails (λ x. x.1)
visited_or m c (vs ∷ plan) = decides_map to of (decides_either (among_or c (visits m vs)) (visited_or m c plan))
  where
    to : In c (visits m vs) ⊎ VisitedBy m c plan → VisitedBy m c (vs ∷ plan)
    to (inl i) = (vs, inl refl, i)
    to (inr (ws, i, j)) = (ws, inr i, j)

    of : VisitedBy m c (vs ∷ plan) → In c (visits m vs) ⊎ VisitedBy m c plan
    of (ws, i, j) = ⊎_elim (λ e. inl (subst (λ us. In c (visits m us)) e j)) (λ k. inr (ws, k, j)) i

module _ {m : Machine} (marked : ℕ → Bool) (runTo : ℕ → List ℕ) where
  -- the computation gives the plan
  pub planned_plan : (t : ℕ) → ((c : ℕ) → c < t → ((marked c ≡ true) × RunTo m c (runTo c)) ⊎ ((marked c ≡ false) × (Marked m c → ⊥))) → Plan m t (planned m marked runTo t)
  unfolding planned
  planned_plan zero all = empty
  planned_plan (suc t) all =
      let x = planned_plan t (λ c l. all c (omega arith)) in ⊎_elim
      (λ e. rw e.0 (⊎_elim
      (λ f. rw f.0 (pass x (λ y. f.1)))
      (λ f. rw f.0 (add x f.1 e.1))
      (decides_cases (visited_or m t (planned m marked runTo t)))))
      (λ e. rw e.0 (pass x (λ y. absurd (e.1 y))))
      (all t (le_refl _))

module _ {m : Machine} (ok : Sound m) where
  pub listed_plan : (ranks parents : List ℕ) → Listed m ranks parents → Plan m (couples m) (plan_of m ranks parents)
  listed_plan ranks parents x = planned_plan _ _ (couples m) (λ c l. ⊎_elim
      (λ r. inl (rw (ne_eqb (get_or ranks c 0) unmarked (λ e. omega (arith, r.0))) refl, followed_run ok (λ d. get_or parents d 0) x.parent (get_or ranks c 0) c r.1))
      (λ r. inr (rw r.0 refl, r.1))
      (x.rank c l))
