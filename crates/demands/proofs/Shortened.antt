-- Demand 3 for a shortened plan: shortening a plan of document 01 is never refused, since its table passed the same checks and its bytes are
-- stored runs; the runs left are runs of the plan and visit the same couples, so that they tell what the plan tells.
use mathlib.Core.Path.{◌≡◌, sym, ap, ◌∙◌}
use mathlib.Core.List.{List, []}
use Prim.Native.Nat.{ℕ, ◌≤◌}
use lib.ListN.{length, take}
use Rattle.verdict.specs.declared.Answer.{Answer}
use Rattle.verdict.proofs.Order.{judged_rest, long}
use Rattle.verdict.proofs.Tests.{meets}
use Rattle.machine.specs.Lists.{In}
use Rattle.machine.specs.Runs.{Machine}
use Rattle.machine.specs.Plans.{runs_in}
use Rattle.machine.proofs.Soundness.{sound_states, sound_calm}
use Rattle.machine.proofs.Stored.{split_stored}
use Rattle.plan.specs.Planning.{PlannedAs}
use Rattle.plan.proofs.Held.{held_checked}
use Rattle.runs.proofs.Broken.{stored_runs}
use Rattle.readings.specs.Expected.{readings_needed, ExpectedAs}
use Rattle.shorten.specs.Shortening.{shorten_checks, ShortenedAs}
use Rattle.shorten.proofs.Shorter.{left_stored, left_lent, same_couples}
use Rattle.demands.specs.Demand3.{RightPlan, Planned}
use Rattle.demands.proofs.Demand3.{plan_right, right_tells, told_by_sheets}
use Rattle.demands.proofs.Applies.{run_accepted}

-- the plan answered 0, and its bytes were lent to shortening
module _ {m : Machine} {ranks₀ plan₀ ranks₁ plan₁ : List ℕ} {a : Answer} (p : PlannedAs m ranks₀ plan₀ a ranks₁ plan₁) (e : a.number ≡ 0)
    {plan₂ : List ℕ} {b : Answer} (q : ShortenedAs m (take a.place plan₁) b plan₂) where
  right : RightPlan m (take a.place plan₁)
  right = plan_right p e

  -- which does not refuse them
  pub shortens : b.number ≡ 0
  shortens =
      let c = held_checked p e in
      let unbroken = (stored_runs m (take a.place plan₁)).1 (record { runs = right.runs; splits = right.splits }) in
      (judged_rest (shorten_checks m (take a.place plan₁)) {ds = []}
      (meets c.tabled.sized, (long c.tabled.long, (sound_states c.sound, (sound_calm c.sound, (unbroken, tt)))))
      q.verdict).verdict.number

  -- and leaves a right plan
  shortened_right : RightPlan m (take b.place plan₂)
  shortened_right = record {
    runs = λ vs i. right.runs vs (left_lent q shortens vs i);
    visits = λ c. (λ v. (right.visits c).0 ((same_couples q shortens c).0 v), λ x. (same_couples q shortens c).1 ((right.visits c).1 x));
    splits = left_stored q shortens;
    one_way = λ plan g. sym (split_stored plan) ∙ ap runs_in g;
  }

  pub shortened_planned : Planned m b plan₂
  shortened_planned =
      let tells = right_tells (held_checked p e).sound shortened_right in
      record { number = shortens; right = shortened_right; tells = tells; by_sheets = told_by_sheets (take b.place plan₂) tells }

  -- expected readings refuse none of its runs, wherever there are words and room
  pub shortened_accepted : {words run readings₀ readings₁ : List ℕ} {d : Answer} → In run (runs_in (take b.place plan₂)) → m.states ≤ length words → readings_needed run ≤ length readings₀
      → ExpectedAs m words run readings₀ d readings₁ → d.number ≡ 0
  shortened_accepted {run = run} i = run_accepted p e (left_lent q shortens run i)
