-- The list apart from the plan is one list, and it and the plan visit every couple that some run visits: by induction on the couples gone
-- through. Its stored bytes tell its runs and their counts.
use mathlib.Core.Path.{◌≡◌, refl, sym, ap, ap₂, subst, ◌∙◌}
use mathlib.Core.Logic.{◌⊎◌, ⊎_elim, inl, inr}
use mathlib.Core.Bool.{Bool, true, false}
use mathlib.Core.List.{List, [], ◌∷◌, ◌++◌, append_assoc, append-nil}
use Prim.Native.Nat.{ℕ, zero, suc, ◌≤◌, ◌<◌}
use native.Mathlib.Nat.{le_refl, div-add-mod'}
use native.Mathlib.Omega.{arith}
use lib.ListN.{length, length-append}
use lib.Seq.{take-append_seam, drop-append_seam}
use Rattle.verdict.proofs.Tests.{decides_cases}
use Rattle.machine.specs.Lists.{In}
use Rattle.machine.specs.inner.Model.{planned}
use Rattle.machine.specs.Runs.{Machine, couples, Sound, Run, visits, Marked}
use Rattle.machine.specs.Shortest.{RunTo}
use Rattle.machine.specs.Plans.{VisitedBy, Plan}
use Rattle.machine.proofs.Order.{equal_or}
use Rattle.machine.proofs.Members.{in_front, in_back, in_either}
use Rattle.machine.proofs.Exists.{marked_below, run_to_exists}
use Rattle.machine.proofs.Plans.{plan_visits, plan_marked, visited_or, planned_plan}
use Rattle.several.specs.Several.{singly, multiples, MultiRunTo}
use Rattle.several.specs.Lists.{MultiList, stored_multi, stored_list, split_list, list_in, counted}
use Rattle.several.specs.Lists.MultiList.{empty, pass, add}
use Rattle.several.proofs.Runs.{multi_unique}
use Rattle.several.proofs.Single.{visits_same, singly_sound}
use Rattle.several.proofs.Total.{marked_or}

more : (m : Machine) (c : ℕ) (runs : List (List ℕ)) (ws : List ℕ) → VisitedBy m c runs → VisitedBy m c (runs ++ (ws ∷ []))
more m c runs ws (vs, i, j) = (vs, in_front vs runs (ws ∷ []) i, j)

module _ {m : Machine} {plan : List (List ℕ)} (ok : Sound m) where
  pub list_unique : {t : ℕ} {p q : List (List ℕ)} → MultiList m plan t p → MultiList m plan t q → p ≡ q
  list_unique empty empty = refl
  list_unique (pass x f) (pass y g) = list_unique x y
  list_unique (pass {c} x f) (add {vs = vs} y n k r) =
      absurd (k (subst (λ (l : List (List ℕ)). VisitedBy m c (plan ++ l)) (list_unique x y) (f n (vs, r.visitor))))
  list_unique (add {c} {vs = vs} x n k r) (pass y g) =
      absurd (k (subst (λ (l : List (List ℕ)). VisitedBy m c (plan ++ l)) (sym (list_unique x y)) (g n (vs, r.visitor))))
  list_unique (add {c} {vs = vs} x n k r) (add {vs = ws} y o l s) =
      ap₂ (λ (a : List (List ℕ)) (b : List ℕ). a ++ (b ∷ [])) (list_unique x y) (multi_unique ok c vs ws r s)

-- each member is the run to a couple that single changes do not mark
pub list_to_lem : {m : Machine} {plan : List (List ℕ)} {t : ℕ} {p : List (List ℕ)} → MultiList m plan t p → (vs : List ℕ) → In vs p → (c : ℕ) × (Marked (singly m) c → ⊥) × MultiRunTo m c vs
list_to_lem empty vs i = absurd i
list_to_lem (pass x f) vs i = list_to_lem x vs i
list_to_lem {m} (add {c} {list = list} {vs = ws} x n k r) vs i = ⊎_elim (λ j. list_to_lem x vs j) (⊎_elim (λ e. (c, n, subst (MultiRunTo m c) (sym e) r)) absurd) (in_either vs list (ws ∷ []) i)

pub list_runs : {m : Machine} {plan : List (List ℕ)} {t : ℕ} {p : List (List ℕ)} → MultiList m plan t p → (vs : List ℕ) → In vs p → Run m vs
list_runs x vs i = (list_to_lem x vs i).2.visitor.run

-- each couple below t that some run visits, and single changes do not, is visited by plan or list
list_visits : {m : Machine} {plan : List (List ℕ)} {t : ℕ} {p : List (List ℕ)} → MultiList m plan t p
    → (c : ℕ) → c < t → (Marked (singly m) c → ⊥) → Marked m c → VisitedBy m c (plan ++ p)
list_visits empty c l n x = absurd (omega arith)
list_visits {m} {plan} (pass {c = d} {list = list} y f) c l n x = ⊎_elim
    (λ e. subst (λ (k : ℕ). VisitedBy m k (plan ++ list)) (sym e) (f (subst (λ (k : ℕ). Marked (singly m) k → ⊥) e n) (subst (Marked m) e x)))
    (λ (e : c ≡ d → ⊥). list_visits y c (omega arith) n x)
    (equal_or c d)
list_visits {m} {plan} (add {c = d} {list = list} {vs = vs} y o k r) c l n x = ⊎_elim
    (λ e. (vs, in_back vs plan (list ++ (vs ∷ [])) (in_back vs list (vs ∷ []) (inl refl)), subst (λ (k : ℕ). In k (visits m vs)) (sym e) r.visitor.sees))
    (λ (e : c ≡ d → ⊥). rw (← append_assoc plan list (vs ∷ [])) (more m c (plan ++ list) vs (list_visits y c (omega arith) n x)))
    (equal_or c d)

module _ {m : Machine} (ok : Sound m) where
  -- a run of the plan is a run that visits the same couples
  plan_visited : (c : ℕ) (plan : List (List ℕ)) → VisitedBy (singly m) c plan → VisitedBy m c plan
  plan_visited c plan (vs, i, j) = (vs, i, subst (In c) (visits_same m vs) j)

  -- plan and list together visit every couple that some run visits
  pub both_visit : {plan list : List (List ℕ)} → Plan (singly m) (couples m) plan → MultiList m plan (couples m) list
      → (c : ℕ) → Marked m c → VisitedBy m c (plan ++ list)
  both_visit {plan} {list} x y c k = ⊎_elim
      (λ z. let (vs, i, j) = plan_visited c plan (plan_visits x c (marked_below ok k) z) in (vs, in_front vs plan list i, j))
      (λ n. list_visits y c (marked_below ok k) n k)
      (marked_or (singly_sound ok) c)

  -- the runs of the plan visit marked couples only: for an unmarked one, earlier runs of the list matter alone
  plan_apart : {plan : List (List ℕ)} {t : ℕ} (list : List (List ℕ)) → Plan (singly m) t plan → (c : ℕ) → (Marked (singly m) c → ⊥) → VisitedBy m c (plan ++ list) → VisitedBy m c list
  plan_apart {plan} list x c n (vs, i, j) = ⊎_elim
      (λ p. absurd (n (plan_marked x c (vs, p, subst (In c) (sym (visits_same m vs)) j))))
      (λ l. (vs, l, j))
      (in_either vs plan list i)

  -- the computation gives the list: want tells the unmarked couples that some run visits
  pub planned_list : {plan : List (List ℕ)} {u : ℕ} → Plan (singly m) u plan → (want : ℕ → Bool) (runTo : ℕ → List ℕ) (t : ℕ)
      → ((c : ℕ) → c < t → ((want c ≡ true) × (Marked (singly m) c → ⊥) × MultiRunTo m c (runTo c)) ⊎ ((want c ≡ false) × ((Marked (singly m) c → ⊥) → Marked m c → ⊥)))
      → MultiList m plan t (planned m want runTo t)
  unfolding planned
  planned_list {plan} x want runTo zero all = empty
  planned_list {plan} x want runTo (suc t) all =
      let y = planned_list x want runTo t (λ c l. all c (omega arith)) in ⊎_elim
      (λ e. rw e.0 (⊎_elim
      (λ f. rw f.0 (pass y (λ n k. let (vs, i, j) = f.1 in (vs, in_back vs plan (planned m want runTo t) i, j))))
      (λ f. rw f.0 (add y e.1 (λ z. f.1 (plan_apart (planned m want runTo t) x t e.1 z)) e.2))
      (decides_cases (visited_or m t (planned m want runTo t)))))
      (λ e. rw e.0 (pass y (λ n k. absurd (e.1 n k))))
      (all t (le_refl _))

-- there is a plan: whether a couple is marked is decided
pub plan_exists : {m : Machine} → Sound m → (plan : List (List ℕ)) × Plan m (couples m) plan
plan_exists {m} ok = (_, planned_plan (λ c. (told c (marked_or ok c)).0) (λ c. (told c (marked_or ok c)).1) (couples m) (λ c _. right c (marked_or ok c)))
  where
    told : (c : ℕ) → Marked m c ⊎ (Marked m c → ⊥) → Bool × List ℕ
    told c (inl x) = (true, (run_to_exists ok c x).0)
    told c (inr n) = (false, [])

    right : (c : ℕ) (x : Marked m c ⊎ (Marked m c → ⊥)) → (((told c x).0 ≡ true) × RunTo m c (told c x).1) ⊎ (((told c x).0 ≡ false) × (Marked m c → ⊥))
    right c (inl x) = inl (refl, (run_to_exists ok c x).1)
    right c (inr n) = inr (refl, n)

-- stored runs end to end, one more behind them
pub stored_list_more : (m : Machine) (list : List (List ℕ)) (vs : List ℕ) → stored_list m (list ++ (vs ∷ [])) ≡ stored_list m list ++ stored_multi m vs
stored_list_more m [] vs = append-nil (stored_multi m vs)
stored_list_more m (ws ∷ list) vs =
    ap (λ (bs : List ℕ). stored_multi m ws ++ bs) (stored_list_more m list vs) ∙ sym (append_assoc (stored_multi m ws) (stored_list m list) (stored_multi m vs))

-- stored bytes split back into the same runs, behind their counts
split_enough : (m : Machine) (k : ℕ) (list : List (List ℕ)) → length list ≤ k → split_list k (stored_list m list) ≡ counted m list
split_enough m zero [] l = refl
split_enough m (suc k) [] l = refl
split_enough m zero (vs ∷ list) l = absurd (omega arith)
split_enough m (suc k) (vs ∷ list) l =
    rw (div-add-mod' (multiples m vs) 256, div-add-mod' (length vs) 256, take-append_seam vs (stored_list m list), drop-append_seam vs (stored_list m list), split_enough m k list (omega arith))

stored_long : (m : Machine) (list : List (List ℕ)) → length list ≤ length (stored_list m list)
stored_long m [] = le_refl _
stored_long m (vs ∷ list) = rw length-append (omega (arith, stored_long m list))

pub split_list_lem : (m : Machine) (list : List (List ℕ)) → list_in (stored_list m list) ≡ counted m list
split_list_lem m list = split_enough m (length (stored_list m list)) list (stored_long m list)
