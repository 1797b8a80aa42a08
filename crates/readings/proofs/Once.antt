-- The promise of expected readings leaves one outcome, of any machine: the checks have one verdict, the readings of a run are one list.
use mathlib.Core.Path.{◌≡◌, sym, ap, ◌∙◌}
use mathlib.Core.List.{List}
use Prim.Native.Nat.{ℕ}
use Rattle.verdict.specs.declared.Answer.{Answer}
use Rattle.verdict.proofs.Order.{same_answer, judged_only}
use Rattle.verdict.proofs.Fills.{written_unique}
use Rattle.machine.specs.Runs.{Machine}
use Rattle.readings.specs.Expected.{ExpectedDone, ExpectedAs}

pub done_only : {run : List ℕ} (a b : Answer) → ExpectedDone run a → ExpectedDone run b → a ≡ b
done_only a b p q = same_answer a b (p.number ∙ sym q.number) (p.place ∙ sym q.place)

pub only : {m : Machine} {words run readings₀ : List ℕ} {a b : Answer} {x y : List ℕ} → ExpectedAs m words run readings₀ a x → ExpectedAs m words run readings₀ b y → (a ≡ b) × (x ≡ y)
only {a = a} {b} u v =
    let same : a ≡ b = judged_only done_only u.verdict v.verdict in
    (same, written_unique (λ _ w z e f. e ∙ sym f) u.readings (rw (sym (ap (λ (c : Answer). c.number) same)) at v.readings))
