-- What the plan and the list of a machine that marking does not refuse answer is what is printed for it: its sheet, or refusal 16. The
-- checks of marking pass, so only 16 can refuse; the ranks and the bytes are the fronts of the buffers. And the text is one.
use mathlib.Core.Path.{◌≡◌, sym, ap, ap₂, subst, subst₂, ◌∙◌}
use mathlib.Core.Logic.{inl}
use mathlib.Core.List.{List, [], ◌∷◌}
use Prim.Native.Nat.{ℕ, ◌-◌, ◌≤◌, ◌<◌}
use native.Mathlib.Omega.{arith}
use lib.ListN.{length, take}
use lib.Seq.{ext_get_or, get_or-take, length-take-le}
use Rattle.verdict.specs.Checks.{check, Judged}
use Rattle.verdict.specs.declared.Answer.{Answer}
use Rattle.verdict.proofs.Order.{Passes, judged_rest, long as room_for}
use Rattle.verdict.proofs.Tests.{meets}
use Rattle.machine.specs.Limits.{most_couples}
use Rattle.machine.specs.Runs.{Machine, couples, Sound, RankOrUnmarked, RanksOf}
use Rattle.machine.proofs.Soundness.{sound_states, sound_calm}
use Rattle.machine.proofs.Sizes.{couples_few}
use Rattle.tables.specs.Tables.{Tabled}
use Rattle.several.specs.Several.{singly}
use Rattle.several.proofs.Single.{singly_sound}
use Rattle.marking.specs.Marking.{mark_checks}
use Rattle.marking.proofs.Once.{rank_only}
use Rattle.plan.specs.Planning.{PlanBytes, ShortOf, WholeDone, plan_checks, PlannedAs}
use Rattle.plan.specs.Multi.{ListBytes, list_checks, ListedAs}
use Rattle.show.specs.Sheet.{sheet_text, refusal_text}
use Rattle.sheet.specs.Printed.{plan_room, list_room, PlanText, sheet, long, long_list}
use Rattle.sheet.specs.inner.Steps.{Ready}
use Rattle.sheet.proofs.Held.{plan_once, list_once, short_none, short_once, sixteen, reach, front, fits}
use Rattle.sheet.proofs.Rooms.{sheet_fits}

-- the ranks are one
pub ranks_once : {m : Machine} {r s : List ℕ} → RanksOf m r → RanksOf m s → r ≡ s
ranks_once {m} {r} {s} x y =
    ext_get_or 0 r s (x.whole ∙ sym y.whole) (λ c h. let l : c < couples m = omega (arith, x.whole) in rank_only _ _ (x.each c l) (y.each c l))

module _ {m : Machine} (ok : Sound m) where
  plan_one : (w u : List ℕ) → PlanBytes (singly m) w → PlanBytes (singly m) u → w ≡ u
  plan_one = plan_once (singly_sound ok)

  no_plan : {p : ℕ} {w : List ℕ} → PlanBytes (singly m) w → length w ≤ plan_room → ShortOf (PlanBytes (singly m)) plan_room p → ⊥
  no_plan = short_none (PlanBytes (singly m)) plan_one

  no_list : {p : ℕ} {w : List ℕ} → ListBytes m w → length w ≤ list_room → ShortOf (ListBytes m) list_room p → ⊥
  no_list = short_none (ListBytes m) (list_once ok)

  -- and so is the text
  pub text_once : {t u : List ℕ} → PlanText m t → PlanText m u → t ≡ u
  text_once (sheet {list = list} r b l d k) (sheet {ranks = ranks} {bytes} s c n f o) =
      ap₂ (λ (x y : List ℕ). sheet_text m.inputs m.states x y list) (ranks_once r s) (plan_one _ _ b c)
      ∙ ap (sheet_text m.inputs m.states ranks bytes) (list_once ok _ _ d f)
  text_once (sheet r b l d k) (long s) = absurd (no_plan b l s)
  text_once (sheet r b l d k) (long_list c n s) = absurd (no_list d k s)
  text_once (long s) (sheet r b l d k) = absurd (no_plan b l s)
  text_once (long s) (long t) = ap (λ (n : ℕ). refusal_text 16 n 0) (short_once (PlanBytes (singly m)) plan_one s t)
  text_once (long s) (long_list b l t) = absurd (no_plan b l s)
  text_once (long_list b l s) (sheet r c n d k) = absurd (no_list d k s)
  text_once (long_list b l s) (long t) = absurd (no_plan b l t)
  text_once (long_list b l s) (long_list c n t) = ap (λ (n : ℕ). refusal_text 16 n 0) (short_once (ListBytes m) (list_once ok) s t)

-- the plan, w being the machine of single changes
module _ {m w : Machine} {room : ℕ} (y : Ready m room) (same : singly m ≡ w) {ranks₀ plan₀ ranks₁ plan₁ : List ℕ} {a : Answer} (x : PlannedAs w ranks₀ plan₀ a ranks₁ plan₁)
    (ranks-lent : length ranks₀ ≡ most_couples) (plan-lent : length plan₀ ≡ plan_room) where
  tabled : Tabled m
  tabled = y.checked.tabled

  ok : Sound m
  ok = y.checked.sound

  p : PlannedAs (singly m) ranks₀ plan₀ a ranks₁ plan₁
  p = subst (λ (v : Machine). PlannedAs v ranks₀ plan₀ a ranks₁ plan₁) (sym same) x

  passed : Passes (mark_checks m most_couples)
  passed =
      (meets tabled.sized, (room_for tabled.long, (room_for (couples_few tabled.sized), (sound_states ok, (sound_calm ok, (record { nowhere = λ q f. y.started f.1 }, tt))))))

  plan_verdict : Judged (check 16 (ShortOf (PlanBytes (singly m)) plan_room) ∷ []) (WholeDone (PlanBytes (singly m))) a
  plan_verdict = judged_rest (mark_checks m most_couples) passed
      (subst₂ (λ (r k : ℕ). Judged (plan_checks (singly m) r k) (WholeDone (PlanBytes (singly m))) a) ranks-lent plan-lent p.verdict)

  -- only 16 refuses it
  pub plan_refused : (a.number ≡ 0 → ⊥) → PlanText m (refusal_text a.number a.place 0)
  plan_refused n =
      let (e, s) = sixteen (PlanBytes (singly m)) (plan_one ok) plan_verdict n in
      subst (λ (k : ℕ). PlanText m (refusal_text k a.place 0)) (sym e) (long s)

  -- then the list, the ranks being lent once more
  module _ (e : a.number ≡ 0) {list₀ ranks₂ list₁ : List ℕ} {b : Answer} (q : ListedAs m ranks₁ list₀ b ranks₂ list₁) (list-lent : length list₀ ≡ list_room) where
    ranks_kept : length ranks₁ ≡ most_couples
    ranks_kept = (p.ranks.filled (inl e)).same_length ∙ ranks-lent

    list_verdict : Judged (check 16 (ShortOf (ListBytes m) list_room) ∷ []) (WholeDone (ListBytes m)) b
    list_verdict = judged_rest (mark_checks m most_couples) passed
        (subst₂ (λ (r k : ℕ). Judged (list_checks m r k) (WholeDone (ListBytes m)) b) ranks_kept list-lent q.verdict)

    pub plan_reach : a.place ≤ length plan₁
    plan_reach = reach (PlanBytes (singly m)) (plan_one ok) plan_verdict e p.plan

    plan_front : PlanBytes (singly m) (take (a.place - 0) plan₁)
    plan_front = front (PlanBytes (singly m)) (plan_one ok) plan_verdict e p.plan

    plan_fits : length (take (a.place - 0) plan₁) ≤ plan_room
    plan_fits = fits (PlanBytes (singly m)) (plan_one ok) plan_verdict e p.plan

    -- only 16 refuses it
    pub list_refused : (b.number ≡ 0 → ⊥) → PlanText m (refusal_text b.number b.place 0)
    list_refused n =
        let (f, s) = sixteen (ListBytes m) (list_once ok) list_verdict n in
        subst (λ (k : ℕ). PlanText m (refusal_text k b.place 0)) (sym f) (long_list plan_front plan_fits s)

    module _ (z : b.number ≡ 0) where
      -- the ranks fill the front of their buffer, as long as the table
      pub ranks_reach : length m.table ≤ length ranks₂
      ranks_reach = omega (arith, y.exact, couples_few tabled.sized, ranks_kept, (q.ranks.filled (inl z)).same_length)

      ranks_front : RanksOf (singly m) (take (length m.table - 0) ranks₂)
      ranks_front = record {
        whole = length-take-le (length m.table - 0) ranks₂ (omega (arith, ranks_reach)) ∙ omega (arith, y.exact);
        each = λ c h. subst (RankOrUnmarked (singly m) c) (sym (get_or-take (length m.table - 0) ranks₂ c 0 (omega (arith, y.exact)))) ((q.ranks.filled (inl z)).needed c h);
      }

      pub list_reach : b.place ≤ length list₁
      list_reach = reach (ListBytes m) (list_once ok) list_verdict z q.list

      list_front : ListBytes m (take (b.place - 0) list₁)
      list_front = front (ListBytes m) (list_once ok) list_verdict z q.list

      list_fits : length (take (b.place - 0) list₁) ≤ list_room
      list_fits = fits (ListBytes m) (list_once ok) list_verdict z q.list

      -- so the sheet is printed, and has room
      pub plan_printed : PlanText m (sheet_text m.inputs m.states (take (length m.table - 0) ranks₂) (take (a.place - 0) plan₁) (take (b.place - 0) list₁))
      plan_printed = sheet ranks_front plan_front plan_fits list_front list_fits

      pub plan_roomy : length (sheet_text m.inputs m.states (take (length m.table - 0) ranks₂) (take (a.place - 0) plan₁) (take (b.place - 0) list₁)) ≤ room
      plan_roomy =
          let z = tabled.sized in
          omega (arith, y.roomy, sheet_fits ok z.few_inputs z.few_states ranks_front plan_front plan_fits list_front list_fits)
