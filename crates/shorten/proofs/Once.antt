-- The promise of shortening leaves one outcome: the checks have one verdict, bytes split into runs in one way, and the pass leaves one list.
-- After success the front of the buffer is what the pass leaves.
use mathlib.Core.Path.{◌≡◌, refl, sym, ap, subst, ◌∙◌}
use mathlib.Core.List.{List, []}
use Prim.Native.Nat.{ℕ}
use lib.ListN.{length, take, drop}
use lib.Seq.{take_at}
use Rattle.verdict.specs.declared.Answer.{Answer}
use Rattle.verdict.proofs.Order.{same_answer, judged_only, judged_done}
use Rattle.verdict.proofs.Fills.{written_unique}
use Rattle.machine.specs.Runs.{Machine}
use Rattle.machine.specs.Plans.{stored}
use Rattle.machine.proofs.Stored.{stored_once}
use Rattle.shorten.specs.Shortening.{Shortens, Shortened, ShortenDone, ShortenedAs}
use Rattle.shorten.proofs.Pass.{shortens_once}

shortened_once : {m : Machine} {bytes w u : List ℕ} → Shortened m bytes w → Shortened m bytes u → w ≡ u
shortened_once {m} x y =
    let e : y.runs ≡ x.runs = stored_once y.runs x.runs (sym y.splits ∙ x.splits) in
    x.stores ∙ ap stored (shortens_once x.shortens (subst (λ l. Shortens m [] l y.left) e y.shortens)) ∙ sym y.stores

done_only : {m : Machine} {bytes : List ℕ} (a b : Answer) → ShortenDone m bytes a → ShortenDone m bytes b → a ≡ b
done_only a b p q = same_answer a b (p.number ∙ sym q.number) (p.place ∙ ap length (shortened_once p.shortened q.shortened) ∙ sym q.place)

pub shorten_only : {m : Machine} {plan : List ℕ} {a b : Answer} {x y : List ℕ} → ShortenedAs m plan a x → ShortenedAs m plan b y → (a ≡ b) × (x ≡ y)
shorten_only {a = a} {b} u v =
    let same : a ≡ b = judged_only done_only u.verdict v.verdict in
    (same, written_unique (λ _ w z e f. shortened_once e f) u.plan (rw (sym (ap (λ (c : Answer). c.number) same)) at v.plan))

pub held : {m : Machine} {plan₀ plan₁ : List ℕ} {a : Answer} → ShortenedAs m plan₀ a plan₁ → a.number ≡ 0 → Shortened m plan₀ (take a.place plan₁)
held {m} {plan₀} {plan₁} {a} p e =
    let d = judged_done 19 p.verdict refl e in
    let (w, s, f) = p.plan.done e in
    let n : length w ≡ a.place = ap length (shortened_once s d.shortened) ∙ sym d.place in
    subst (Shortened m plan₀) (sym (ap (take a.place) f.is ∙ take_at w (drop (length w) plan₀) a.place n)) s
