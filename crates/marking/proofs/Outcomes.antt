-- What marking answers and leaves, at each of its ends: the verdict is that of the checks passed before it, and the buffers are
-- unchanged, blank or filled by its number; the ranks are those that the weights tell.
use mathlib.Core.Path.{◌≡◌, refl, sym, subst, ◌∙◌}
use mathlib.Core.Logic.{inl, inr, ⊎_elim}
use mathlib.Core.Bool.{false}
use mathlib.Core.List.{List, ◌++◌}
use Prim.Native.Nat.{ℕ, ◌≤◌, ◌<◌}
use native.Mathlib.Omega.{arith}
use lib.ListN.{length, get_or, take, drop, get_or-eq_default}
use borrow.Author.Tests.{lt-ltb, le-ltb}
use Rattle.verdict.specs.Buffers.{Filled, Left}
use Rattle.verdict.specs.declared.Answer.{Answer}
use Rattle.verdict.specs.declared.Refusal.{Refusal}
use Rattle.verdict.specs.Refusals.{number_of, refused_by}
use Rattle.verdict.proofs.Refusals.{refusal_number}
use Rattle.verdict.proofs.Fills.{filled_free, left_same, left_blank, left_filled}
use Rattle.verdict.proofs.Order.{judged_on, judged_stop, judged_number, judged_passes, roomy}
use Rattle.machine.specs.Limits.{most_couples, unmarked}
use Rattle.machine.specs.Runs.{Machine, machine_of, couples, RankOrUnmarked}
use Rattle.machine.specs.declared.Frame.{Frame}
use Rattle.machine.proofs.Order.{equal_or}
use Rattle.machine.proofs.Sizes.{couples_few}
use Rattle.several.specs.Several.{singly}
use Rattle.several.specs.Weights.{extra, WeightOrNone}
use Rattle.several.proofs.Single.{singly_by}
use Rattle.several.proofs.Listed.{weight_rank}
use Rattle.tables.specs.Tables.{move_checks, start_checks, Checked}
use Rattle.marking.specs.Marking.{MarkedAs, ParentedAs}
use Rattle.marking.specs.inner.Parts.{SizedAs, Exact, WeighedAs, rank_of, ExactAs}
use Rattle.marking.proofs.Checks.{without_parents}
use Rattle.marking.proofs.Parts.{left_part}

-- a buffer whose elements are all needed
left_whole : {number t blank : ℕ} {Value : ℕ → ℕ → Type 0} {a b : List ℕ} → ((number ≡ 0 → ⊥) → (4 ≤ number) × (number ≤ 13)) → length a ≡ t → length b ≡ t
    → (number ≡ 0 → (c : ℕ) → c < t → Value c (get_or b c 0)) → ((number ≡ 0 → ⊥) → (c : ℕ) → c < t → get_or b c 0 ≡ blank) → Left number t blank Value a b
left_whole {number} {t} {a = a} {b} range la lb full empty = ⊎_elim
    (λ e. left_filled (inl e) (all (full e)))
    (λ n. let (low, high) = range n in left_blank low high (filled_free {Value = λ c x. Unit {0}} a (λ c x. tt)) (all (empty n)))
    (equal_or number 0)
  where
    all : {Is : ℕ → ℕ → Type 0} → ((c : ℕ) → c < t → Is c (get_or b c 0)) → Filled t Is a b
    all needed = record { same_length = lb ∙ sym la; needed = needed; beyond = λ c l. get_or-eq_default b 0 (rw lb l) ∙ sym (get_or-eq_default a 0 (rw la l)) }

-- a rank, by the weight
rank_cell : {m : Machine} {c x : ℕ} → Checked m → WeightOrNone m c x → RankOrUnmarked (singly m) c (rank_of x)
rank_cell {m} {c} {x} checked w = ⊎_elim
    (λ (l, r). let h : x < extra = omega (arith, couples_few checked.tabled.sized) in rw (lt-ltb x extra h) (inl (omega (arith, couples_few checked.tabled.sized), r)))
    (λ (l, n). rw (le-ltb x extra l) (inr (refl, n)))
    (weight_rank checked.sound (couples_few checked.tabled.sized) w)

-- the buffers behind the checks of the table, the ranks told where the queue was
pub marked : {m : Machine} {R W P Q R₁ W₁ P₁ : List ℕ} {a : Answer} → Exact m W P → length R ≡ couples m → length Q ≡ length R → WeighedAs m a W₁ P₁
    → Filled (length Q) (λ c x. x ≡ rank_of (get_or W₁ c 0)) Q R₁ → ExactAs m R W P a R₁ W₁ P₁
marked {m} {R} {W} {P} {Q} {R₁} {W₁} {P₁} {a} exact all queue y ranks = record {
  verdict = y.verdict;
  ranks = left_whole range all (ranks.same_length ∙ queue ∙ all)
      (λ e c l. rw (told c l) (rank_cell (y.done e).1 ((y.done e).0.weight c l)))
      (λ n c l. told c l ∙ rw ((y.refused n).weights_blank c l) refl);
  weights = left_whole range exact.weights_are after.weights_are (λ e. (y.done e).0.weight) (λ n. (y.refused n).weights_blank);
  parents = left_whole range exact.parents_are after.parents_are (λ e. (y.done e).0.parent) (λ n. (y.refused n).parents_blank);
}
  where
    range : (a.number ≡ 0 → ⊥) → (4 ≤ a.number) × (a.number ≤ 13)
    range = judged_number 4 13 y.verdict refl

    after : Exact m W₁ P₁
    after = ⊎_elim (λ e. (y.done e).0.exact) (λ n. (y.refused n).exact) (equal_or a.number 0)

    told : (c : ℕ) → c < couples m → get_or R₁ c 0 ≡ rank_of (get_or W₁ c 0)
    told c l = ranks.needed c (rw (queue ∙ all) l)

-- refusals 2 and 3 change nothing
pub keeping : {m : Machine} {R W P : List ℕ} (r : Refusal) → SizedAs m (length R) (length W) (length P) (refused_by r) → ParentedAs m R W P (refused_by r) R W P
keeping {m} r x =
    let no : number_of r ≡ 0 → ⊥ = λ e. omega (arith, refusal_number r) in
    let (low, high) = judged_number 1 3 x.verdict refl no in
    record { verdict = judged_stop (move_checks m ++ start_checks m) x.verdict no; ranks = left_same low high; weights = left_same low high; parents = left_same low high }

-- with room for all, on the first elements
pub parented : {m : Machine} {k : ℕ} (R W P : List ℕ) {a b : Answer} {R₁ W₁ P₁ : List ℕ} → SizedAs m (length R) (length W) (length P) a → a.number ≡ 0 → k ≡ couples m
    → ExactAs m (take k R) (take k W) (take k P) b R₁ W₁ P₁ → ParentedAs m R W P b (R₁ ++ drop k R) (W₁ ++ drop k W) (P₁ ++ drop k P)
parented {k = k} R W P x e all y =
    let passed = judged_passes 3 x.verdict refl e in
    record {
      verdict = judged_on 3 x.verdict refl e y.verdict;
      ranks = left_part k R (rw all (roomy passed.1.1.0)) all y.ranks;
      weights = left_part k W (rw all (roomy passed.1.1.1.0)) all y.weights;
      parents = left_part k P (rw all (roomy passed.1.1.1.1.0)) all y.parents;
    }

-- of single changes, in arrays for as many couples as a machine may have
pub marked_single : (f : Frame) (T : List ℕ) {R W P R₁ W₁ P₁ : List ℕ} {a : Answer} → length W ≡ most_couples → length P ≡ most_couples → ParentedAs (machine_of f T) R W P a R₁ W₁ P₁ → MarkedAs (machine_of f T) R a R₁
marked_single f T {R} {R₁ = R₁} {a = a} weights parents x = record {
  verdict = without_parents weights parents x;
  ranks = subst (λ (m : Machine). Left a.number (couples m) unmarked (RankOrUnmarked m) R R₁) (singly_by false f T) x.ranks;
}
