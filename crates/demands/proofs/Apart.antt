-- Where the run to a couple, the plan and the list answer 0, what they leave is right where several inputs may change at once: the written
-- bytes are the run, and those of the list split back into it, beside the one plan of single changes. Expected readings accept each run.
use mathlib.Core.Path.{◌≡◌, refl, sym, ap, subst, ◌∙◌}
use mathlib.Core.Logic.{◌↔◌, ⊎_elim}
use mathlib.Core.Bool.{true, and-eq-true_iff}
use mathlib.Core.List.{List, [], ◌∷◌, ◌++◌, map}
use Prim.Native.Nat.{ℕ, ◌≤◌}
use native.Mathlib.Omega.{arith}
use lib.ListN.{length, take}
use Rattle.verdict.specs.declared.Answer.{Answer}
use Rattle.sets.specs.Sets.{member}
use Rattle.machine.specs.Lists.{In}
use Rattle.machine.specs.Runs.{Machine, usable, machine_by, machine_of, couples, Sound, Goes, Run, Marked}
use Rattle.machine.specs.Shortest.{RunTo}
use Rattle.machine.specs.Plans.{Plan, runs_in}
use Rattle.machine.specs.declared.Frame.{Frame}
use Rattle.machine.proofs.Members.{in_either}
use Rattle.machine.proofs.Plans.{plan_unique, plan_runs}
use Rattle.several.specs.Several.{singly, multiples}
use Rattle.several.specs.Lists.{MultiList, stored_list, list_in, counted}
use Rattle.several.proofs.Runs.{multi_small}
use Rattle.several.proofs.Single.{singly_sound, singly_by, run_of_lem, multi_run, none_multiple}
use Rattle.several.proofs.Lists.{list_to_lem, list_runs, both_visit, split_list_lem}
use Rattle.plan.specs.Planning.{PlannedAs}
use Rattle.plan.specs.Multi.{MultiAs, ListedAs}
use Rattle.plan.proofs.Held.{list_checked, list_held, multi_checked, multi_held}
use Rattle.readings.specs.Expected.{readings_needed, ExpectedAs}
use Rattle.demands.specs.Several.{Obeys, RightRun, runs_apart, RightList}
use Rattle.demands.proofs.Demand3.{held}
use Rattle.demands.proofs.Applies.{run_expected}

-- stored runs without their counts
runs_apart_lem : (m : Machine) (list : List (List ℕ)) → runs_apart (stored_list m list) ≡ list
runs_apart_lem m list = ap (map (λ (x : ℕ × List ℕ). x.1)) (split_list_lem m list) ∙ uncounted list
  where
    uncounted : (list : List (List ℕ)) → map (λ (x : ℕ × List ℕ). x.1) (counted m list) ≡ list
    uncounted [] = refl
    uncounted (vs ∷ list) = ap (λ (l : List (List ℕ)). vs ∷ l) (uncounted list)

module _ (f : Frame) (T : List ℕ) where
  abbrev m : Machine
  m = machine_by true f T

  -- a run keeps off what is ruled out
  run_obeys : (vs : List ℕ) → Run m vs → Obeys f vs
  run_obeys [] r = absurd r
  run_obeys (v ∷ vs) r = (r.0.allowed, λ w. ⊎_elim (λ e. rw e ((and-eq-true_iff (member f.starts v) _).0 r.0.allowed).1) (goes v vs r.1 w))
    where
      goes : (v : ℕ) (ws : List ℕ) → Goes m v ws → (w : ℕ) → In w ws → usable f w ≡ true
      goes v [] g w i = absurd i
      goes v (x ∷ xs) g w i = ⊎_elim (λ e. rw e ((and-eq-true_iff (usable f x) _).0 g.0.allowed).0) (goes x xs g.1 w) i

  -- the run to a couple answered 0
  module _ {c : ℕ} {ranks₀ run₀ ranks₁ run₁ : List ℕ} {a : Answer} (p : MultiAs (machine_by true f T) c ranks₀ run₀ a ranks₁ run₁) (e : a.number ≡ 0) where
    pub run_right : RightRun f T c (take a.place run₁)
    run_right =
        let ok = (multi_checked p e).sound in
        let x = multi_held p e in
        let single = singly_by true f T in
        record {
          run_to = x;
          no_multiple = subst (λ (k : Machine). (multiples m (take a.place run₁) ≡ 0) ↔ Marked k c) single (none_multiple ok x);
          single = subst (λ (k : Machine). Marked k c → RunTo k c (take a.place run₁)) single (λ k. multi_run ok k x);
          obeys = run_obeys (take a.place run₁) x.visitor.run;
        }

    -- expected readings do not refuse it, wherever there are words and room
    pub multi_accepted : {words readings₀ readings₁ : List ℕ} {b : Answer} → f.states ≤ length words → readings_needed (take a.place run₁) ≤ length readings₀
        → ExpectedAs (machine_by true f T) words (take a.place run₁) readings₀ b readings₁ → b.number ≡ 0
    multi_accepted = let k = multi_checked p e in let x = multi_held p e in run_expected k x.visitor.run (multi_small k.sound x).0

  -- the list answered 0
  module _ {ranks₂ list₀ ranks₃ list₁ : List ℕ} {b : Answer} (q : ListedAs (machine_by true f T) ranks₂ list₀ b ranks₃ list₁) (e : b.number ≡ 0) where
    ok : Sound m
    ok = (list_checked q e).sound

    -- its bytes are a list beside the plan
    own : (plan : List (List ℕ)) × Plan (singly m) (couples m) plan × MultiList m plan (couples m) (runs_apart (take b.place list₁)) × (stored_list m (runs_apart (take b.place list₁)) ≡ take b.place list₁)
    own =
        let (plan, list, x, y, g) = list_held q e in
        let s = ap runs_apart g ∙ runs_apart_lem m list in
        (plan, x, subst (MultiList m plan (couples m)) (sym s) y, ap (stored_list m) s ∙ sym g)

    -- expected readings refuse none of its runs, wherever there are words and room
    pub list_accepted : {words run readings₀ readings₁ : List ℕ} {d : Answer} → In run (runs_apart (take b.place list₁)) → f.states ≤ length words → readings_needed run ≤ length readings₀
        → ExpectedAs (machine_by true f T) words run readings₀ d readings₁ → d.number ≡ 0
    list_accepted {run = run} i = let (c, n, x) = list_to_lem own.2 run i in run_expected (list_checked q e) x.visitor.run (multi_small ok x).0

    -- and so did the plan
    module _ {ranks₀ plan₀ ranks₁ plan₁ : List ℕ} {a : Answer} (p : PlannedAs (machine_of f T) ranks₀ plan₀ a ranks₁ plan₁) (d : a.number ≡ 0) where
      planned : Plan (singly m) (couples m) (runs_in (take a.place plan₁))
      planned = subst (λ (k : Machine). Plan k (couples m) (runs_in (take a.place plan₁))) (sym (singly_by true f T)) (held p d)

      listed : MultiList m (runs_in (take a.place plan₁)) (couples m) (runs_apart (take b.place list₁))
      listed = subst (λ (plan : List (List ℕ)). MultiList m plan (couples m) (runs_apart (take b.place list₁))) (plan_unique (singly_sound ok) own.1 planned) own.2

      both_runs : (vs : List ℕ) → In vs (runs_in (take a.place plan₁) ++ runs_apart (take b.place list₁)) → Run m vs
      both_runs vs i = ⊎_elim (λ j. (run_of_lem m vs (plan_runs planned vs j)).0) (list_runs listed vs) (in_either vs (runs_in (take a.place plan₁)) (runs_apart (take b.place list₁)) i)

      pub list_right : RightList f T (take a.place plan₁) (take b.place list₁)
      list_right = record {
        listed = listed;
        multiple = λ vs i. let (c, n, x) = list_to_lem listed vs i in let z : multiples m vs ≡ 0 → ⊥ = λ z. n ((none_multiple ok x).0 z) in omega arith;
        obey = λ vs i. run_obeys vs (list_runs listed vs i);
        visits = λ c. (λ v. (v.0, record { run = both_runs v.0 v.1; sees = v.2 }), both_visit ok planned listed c);
        counts = subst (λ (w : List ℕ). list_in w ≡ counted m (runs_apart (take b.place list₁))) own.3 (split_list_lem m (runs_apart (take b.place list₁)));
        splits = own.3;
      }
