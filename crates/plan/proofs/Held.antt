-- After success the written front of a buffer is the stored plan, the stored list, or the run: the answer's place and the buffer speak of
-- the same bytes, since what is written is one.
use mathlib.Core.Path.{◌≡◌, refl, sym, ap, subst, ◌∙◌}
use mathlib.Core.List.{List, [], ◌∷◌}
use Prim.Native.Nat.{ℕ, ◌<◌}
use lib.ListN.{length, take, drop}
use lib.Seq.{take_at}
use Rattle.verdict.specs.Checks.{check, Unless}
use Rattle.verdict.specs.Buffers.{Written}
use Rattle.verdict.specs.declared.Answer.{Answer}
use Rattle.verdict.proofs.Order.{judged_passes, judged_done}
use Rattle.machine.specs.Runs.{Machine, couples, Marked}
use Rattle.machine.specs.Plans.{Plan, stored}
use Rattle.tables.specs.Tables.{Checked}
use Rattle.several.specs.Several.{singly, MultiRunTo}
use Rattle.several.specs.Lists.{MultiList, stored_list}
use Rattle.several.proofs.Runs.{multi_unique}
use Rattle.marking.proofs.Checks.{mark_checked}
use Rattle.plan.specs.Planning.{PlanBytes, ShortOf, WholeDone, PlannedAs}
use Rattle.plan.specs.Multi.{MultiAs, ListBytes, ListedAs}
use Rattle.plan.proofs.Outcomes.{bytes_unique, list_bytes_unique}

-- what was written whole stands at the front
whole_held : {Is : List ℕ → Type 0} {out out₁ : List ℕ} {a : Answer} → ((w u : List ℕ) → Is w → Is u → w ≡ u) → WholeDone Is a → Written a.number Is out out₁
    → (w : List ℕ) × Is w × (take a.place out₁ ≡ w)
whole_held {out = out} {a = a} one d f =
    let (w, is, g) = f.done d.number in
    let n : length w ≡ a.place = ap length (one w _ is d.is) ∙ sym d.place in
    (w, is, ap (take a.place) g.is ∙ take_at w (drop (length w) out) a.place n)

module _ {m : Machine} {ranks₀ plan₀ ranks₁ plan₁ : List ℕ} {a : Answer} (p : PlannedAs m ranks₀ plan₀ a ranks₁ plan₁) (e : a.number ≡ 0) where
  pub held_checked : Checked m
  held_checked = mark_checked m (check 16 (ShortOf (PlanBytes m) (length plan₀)) ∷ []) (judged_passes 16 p.verdict refl e)

  pub plan_held : (runs : List (List ℕ)) × Plan m (couples m) runs × (take a.place plan₁ ≡ stored runs)
  plan_held =
      let (w, planned, f) = whole_held (λ w u. bytes_unique held_checked.sound) (judged_done 16 p.verdict refl e) p.plan in
      (planned.0, planned.1, f ∙ planned.2)

-- and the written front of the list buffer is the stored list beside the plan
module _ {m : Machine} {ranks₀ list₀ ranks₁ list₁ : List ℕ} {a : Answer} (p : ListedAs m ranks₀ list₀ a ranks₁ list₁) (e : a.number ≡ 0) where
  pub list_checked : Checked m
  list_checked = mark_checked m (check 16 (ShortOf (ListBytes m) (length list₀)) ∷ []) (judged_passes 16 p.verdict refl e)

  pub list_held : (plan : List (List ℕ)) × (list : List (List ℕ)) × Plan (singly m) (couples m) plan × MultiList m plan (couples m) list × (take a.place list₁ ≡ stored_list m list)
  list_held =
      let (w, listed, f) = whole_held (λ w u. list_bytes_unique list_checked.sound) (judged_done 16 p.verdict refl e) p.list in
      (listed.0, listed.1, listed.2, listed.3, f ∙ listed.4)

-- and that of the run buffer is the run to the couple, where several inputs may change at once
module _ {m : Machine} {c : ℕ} {ranks₀ run₀ ranks₁ run₁ : List ℕ} {a : Answer} (p : MultiAs m c ranks₀ run₀ a ranks₁ run₁) (e : a.number ≡ 0) where
  pub multi_checked : Checked m
  multi_checked = mark_checked m (check 14 (Unless (c < couples m)) ∷ check 20 (Unless (Marked m c)) ∷ check 16 (ShortOf (MultiRunTo m c) (length run₀)) ∷ []) (judged_passes 20 p.verdict refl e)

  pub multi_held : MultiRunTo m c (take a.place run₁)
  multi_held =
      let (w, x, f) = whole_held (λ w u. multi_unique multi_checked.sound c w u) (judged_done 20 p.verdict refl e) p.run in
      subst (MultiRunTo m c) (sym f) x
