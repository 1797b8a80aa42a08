-- Demand 3: where marking and the plan answer 0, what they leave is right. The ranks are those of the promise; the plan's bytes split
-- back into the plan, whose runs visit what is marked and tell boards apart; the sheets of expected readings are the specification's.
use mathlib.Core.Path.{◌≡◌, refl, sym, ap, subst, ◌∙◌}
use mathlib.Core.Logic.{◌⊎◌, ⊎_elim}
use mathlib.Core.List.{List}
use Prim.Native.Nat.{ℕ, ◌≤◌, ◌<◌}
use native.Mathlib.Omega.{arith}
use lib.ListN.{get_or, take, drop, length}
use lib.Seq.{take_at}
use Rattle.verdict.specs.Buffers.{Left}
use Rattle.verdict.specs.declared.Answer.{Answer}
use Rattle.verdict.proofs.Order.{judged_done}
use Rattle.machine.specs.Limits.{unmarked}
use Rattle.machine.specs.Runs.{Machine, couples, Sound, Rank, RankOrUnmarked}
use Rattle.machine.specs.Plans.{Plan, stored, runs_in}
use Rattle.machine.specs.Boards.{readings, specified}
use Rattle.machine.proofs.Exists.{marked_below}
use Rattle.machine.proofs.Plans.{plan_runs, plan_visits, plan_marked}
use Rattle.machine.proofs.Readings.{length_readings, board_theorem}
use Rattle.machine.proofs.Stored.{split_stored}
use Rattle.plan.specs.Planning.{PlannedAs}
use Rattle.plan.proofs.Held.{held_checked, plan_held}
use Rattle.demands.specs.Demand3.{RankStored, RightRanks, RightPlan, TellsBoards, Expected, TellsBySheets}

module _ {m : Machine} where
  -- marking, or the plan, answered 0, or the plan 16
  pub ranks_right : {number : ℕ} {ranks₀ ranks₁ : List ℕ} → Left number (couples m) unmarked (RankOrUnmarked m) ranks₀ ranks₁ → (number ≡ 0) ⊎ (14 ≤ number) → RightRanks m ranks₁
  ranks_right {ranks₁ = R} left e = record {
    stored_if = λ c h. (λ f. let r = ranked c h f in (r.some, r.visitor), λ x g. ⊎_elim (λ r. omega (arith, r.0)) (λ r. r.1 x) (cell c h));
    fewest = ranked;
  }
    where
      cell : (c : ℕ) → c < couples m → RankOrUnmarked m c (get_or R c 0)
      cell = (left.filled e).needed

      ranked : (c : ℕ) → c < couples m → RankStored R c → Rank m c (get_or R c 0)
      ranked c h f = ⊎_elim (λ r. r.1) (λ r. absurd (f r.0)) (cell c h)

  sheet_is : {words run sheet : List ℕ} → Expected m words run sheet → sheet ≡ readings (specified m (λ s. get_or words s 0)) run
  sheet_is {words} {run} t =
      let p = t.promise in
      let d = judged_done 17 p.verdict refl t.success in
      let (w, x, f) = p.readings.done t.success in
      let n : length w ≡ t.answer.place = ap length x ∙ length_readings (specified m (λ s. get_or words s 0)) run ∙ sym d.place in
      t.is ∙ ap (take t.answer.place) f.is ∙ take_at w (drop (length w) t.before) t.answer.place n ∙ x

  -- bytes that are right tell boards apart
  pub right_tells : {bytes : List ℕ} → Sound m → RightPlan m bytes → TellsBoards m bytes
  right_tells {bytes} ok r word differ b like = board_theorem ok differ like (runs_in bytes) r.runs (λ c y. (r.visits c).1 y)

  -- and bytes that do so do it by the sheets of their runs
  pub told_by_sheets : (bytes : List ℕ) → TellsBoards m bytes → TellsBySheets m bytes
  told_by_sheets bytes tells words differ b like sheet told =
      let t = tells (λ s. get_or words s 0) differ b like in
      (λ h. t.0 (λ vs i. h vs i ∙ sheet_is (told vs i)), λ g vs i. t.1 g vs i ∙ sym (sheet_is (told vs i)))

  -- the plan answered 0, with the bytes that it wrote as its place
  module _ {ranks₀ plan₀ ranks₁ plan₁ : List ℕ} {a : Answer} (p : PlannedAs m ranks₀ plan₀ a ranks₁ plan₁) (e : a.number ≡ 0) where
    pub held : Plan m (couples m) (runs_in (take a.place plan₁))
    held = let (runs, x, f) = plan_held p e in subst (Plan m (couples m)) (sym (ap runs_in f ∙ split_stored runs)) x

    pub plan_right : RightPlan m (take a.place plan₁)
    plan_right =
        let (runs, x, f) = plan_held p e in
        let same : runs_in (take a.place plan₁) ≡ runs = ap runs_in f ∙ split_stored runs in
        record {
          runs = plan_runs held;
          visits = λ c. (plan_marked held c, λ y. plan_visits held c (marked_below (held_checked p e).sound y) y);
          splits = ap stored same ∙ sym f;
          one_way = λ plan g. sym (split_stored plan) ∙ ap runs_in g;
        }

    pub boards_told : TellsBoards m (take a.place plan₁)
    boards_told = right_tells (held_checked p e).sound plan_right

    pub sheets_tell : TellsBySheets m (take a.place plan₁)
    sheets_tell = told_by_sheets (take a.place plan₁) boards_told
