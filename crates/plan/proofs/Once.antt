-- The run to a couple, the plan and the list have one outcome each: the verdict is one, and where nothing before refused the machine is
-- sound, so that what is written is one list; what is left in each buffer follows the number answered.
use mathlib.Core.Path.{◌≡◌, refl, sym, ap, subst, ◌∙◌}
use mathlib.Core.List.{List, [], ◌∷◌, ◌++◌}
use Prim.Native.Nat.{ℕ, ◌+◌, ◌<◌}
use lib.ListN.{length}
use Rattle.verdict.specs.Checks.{Check, check, Unless}
use Rattle.verdict.specs.declared.Answer.{Answer}
use Rattle.verdict.proofs.Order.{Numbered, same_answer, judged_once, judged_passes}
use Rattle.verdict.proofs.Fills.{left_unique, written_unique}
use Rattle.machine.specs.Runs.{Machine, couples, Marked}
use Rattle.machine.proofs.Small.{rank_unique}
use Rattle.machine.proofs.Shortest.{run_to_unique}
use Rattle.tables.specs.Tables.{Checked}
use Rattle.several.specs.Several.{singly, MultiRunTo}
use Rattle.several.proofs.Runs.{multi_unique}
use Rattle.marking.specs.Marking.{mark_checks}
use Rattle.marking.proofs.Checks.{mark_checked}
use Rattle.marking.proofs.Once.{rank_only}
use Rattle.plan.specs.Planning.{ShortRun, RunDone, RunAs, PlanBytes, ShortOf, WholeDone, PlannedAs}
use Rattle.plan.specs.Multi.{MultiAs, ListBytes, ListedAs}
use Rattle.plan.proofs.Endings.{Ended}
use Rattle.plan.proofs.Outcomes.{bytes_unique, list_bytes_unique}

run_done_unique : (m : Machine) (c : ℕ) (a b : Answer) → RunDone m c a → RunDone m c b → a ≡ b
run_done_unique m c a b x y = same_answer a b (x.number ∙ sym y.number) (x.place ∙ ap (λ (r : ℕ). r + 1) (rank_unique x.ranked y.ranked) ∙ sym y.place)

whole_done_unique : {Is : List ℕ → Type 0} → ((w u : List ℕ) → Is w → Is u → w ≡ u) → (a b : Answer) → WholeDone Is a → WholeDone Is b → a ≡ b
whole_done_unique one a b x y = same_answer a b (x.number ∙ sym y.number) (x.place ∙ ap length (one _ _ x.is y.is) ∙ sym y.place)

-- endings of one shape are one, if success tells one answer and one list is right
module _ (m k : Machine) (later : List Check) (done : Answer → Type 0) (Is : List ℕ → Type 0) (ranks out : List ℕ)
    (numbered : Numbered 1 20 (mark_checks m (length ranks) ++ later)) (once : Checked m → (a b : Answer) → done a → done b → a ≡ b) (one : Checked m → (w u : List ℕ) → Is w → Is u → w ≡ u) where
  ended_only : {a b : Answer} {ranks₁ out₁ ranks₂ out₂ : List ℕ} → Ended m k later done Is ranks out a ranks₁ out₁ → Ended m k later done Is ranks out b ranks₂ out₂
      → (a ≡ b) × (ranks₁ ≡ ranks₂) × (out₁ ≡ out₂)
  ended_only {a} {b} {ranks₂ = ranks₂} {out₂} x y =
      let e = judged_once (λ p. once (mark_checked m later p)) x.verdict y.verdict in
      let z = subst (λ (d : Answer). Ended m k later done Is ranks out d ranks₂ out₂) (sym e) y in (
        e,
        left_unique (λ _ d p q _. rank_only p q) x.ranks z.ranks,
        written_unique (λ f. one (mark_checked m later (judged_passes 20 x.verdict numbered f))) x.written z.written,
      )

module _ {m : Machine} {a b : Answer} where
  pub run_to_only : {c : ℕ} {ranks run ranks₁ ranks₂ run₁ run₂ : List ℕ} → RunAs m c ranks run a ranks₁ run₁ → RunAs m c ranks run b ranks₂ run₂
      → (a ≡ b) × (ranks₁ ≡ ranks₂) × (run₁ ≡ run₂)
  run_to_only {c} {ranks} {run} x y =
      ended_only m m (check 14 (Unless (c < couples m)) ∷ check 15 (Unless (Marked m c)) ∷ check 16 (ShortRun m c (length run)) ∷ []) (RunDone m c) _ ranks run
      refl (λ _. run_done_unique m c) (λ k w u. run_to_unique k.sound c w u)
      (record { verdict = x.verdict; ranks = x.ranks; written = x.run })
      (record { verdict = y.verdict; ranks = y.ranks; written = y.run })

  pub multi_run_to_only : {c : ℕ} {ranks run ranks₁ ranks₂ run₁ run₂ : List ℕ} → MultiAs m c ranks run a ranks₁ run₁ → MultiAs m c ranks run b ranks₂ run₂
      → (a ≡ b) × (ranks₁ ≡ ranks₂) × (run₁ ≡ run₂)
  multi_run_to_only {c} {ranks} {run} x y =
      ended_only m (singly m) (check 14 (Unless (c < couples m)) ∷ check 20 (Unless (Marked m c)) ∷ check 16 (ShortOf (MultiRunTo m c) (length run)) ∷ []) (WholeDone (MultiRunTo m c)) (MultiRunTo m c) ranks run
      refl (λ k. whole_done_unique (λ w u. multi_unique k.sound c w u)) (λ k w u. multi_unique k.sound c w u)
      (record { verdict = x.verdict; ranks = x.ranks; written = x.run })
      (record { verdict = y.verdict; ranks = y.ranks; written = y.run })

  pub plan_only : {ranks plan ranks₁ ranks₂ plan₁ plan₂ : List ℕ} → PlannedAs m ranks plan a ranks₁ plan₁ → PlannedAs m ranks plan b ranks₂ plan₂
      → (a ≡ b) × (ranks₁ ≡ ranks₂) × (plan₁ ≡ plan₂)
  plan_only {ranks} {plan} x y =
      ended_only m m (check 16 (ShortOf (PlanBytes m) (length plan)) ∷ []) (WholeDone (PlanBytes m)) (PlanBytes m) ranks plan
      refl (λ k. whole_done_unique (λ w u. bytes_unique k.sound)) (λ k w u. bytes_unique k.sound)
      (record { verdict = x.verdict; ranks = x.ranks; written = x.plan })
      (record { verdict = y.verdict; ranks = y.ranks; written = y.plan })

  pub multi_list_only : {ranks list ranks₁ ranks₂ list₁ list₂ : List ℕ} → ListedAs m ranks list a ranks₁ list₁ → ListedAs m ranks list b ranks₂ list₂
      → (a ≡ b) × (ranks₁ ≡ ranks₂) × (list₁ ≡ list₂)
  multi_list_only {ranks} {list} x y =
      ended_only m (singly m) (check 16 (ShortOf (ListBytes m) (length list)) ∷ []) (WholeDone (ListBytes m)) (ListBytes m) ranks list
      refl (λ k. whole_done_unique (λ w u. list_bytes_unique k.sound)) (λ k w u. list_bytes_unique k.sound)
      (record { verdict = x.verdict; ranks = x.ranks; written = x.list })
      (record { verdict = y.verdict; ranks = y.ranks; written = y.list })
