-- Each promise of this crate leaves one outcome: the checks have one verdict, and by its number each buffer is one, since a couple has
-- one rank or is not marked, and one run to it or none.
use mathlib.Core.Path.{◌≡◌, refl, sym, ap, subst, ◌∙◌}
use mathlib.Core.Logic.{◌⊎◌, inl, inr}
use mathlib.Core.List.{List}
use Prim.Native.Nat.{ℕ, ◌+◌, ◌*◌, ◌≤◌}
use native.Mathlib.Omega.{arith}
use lib.ListN.{length, get_or}
use Rattle.verdict.specs.declared.Answer.{Answer}
use Rattle.verdict.proofs.Fills.{left_unique}
use Rattle.verdict.proofs.Order.{judged_passes, judged_number, judged_unique}
use Rattle.machine.specs.Runs.{Machine, Sound, RankOrUnmarked}
use Rattle.machine.proofs.Small.{rank_unique}
use Rattle.several.specs.Several.{multiples}
use Rattle.several.specs.Weights.{extra, WeightOrNone, ParentOrNone}
use Rattle.several.proofs.Runs.{multi_unique}
use Rattle.marking.proofs.Checks.{parents_checked}
use Rattle.marking.specs.Marking.{MarkedAs, ParentedAs}

module _ {m : Machine} {c : ℕ} where
  -- what a rank buffer holds is one
  pub rank_only : (x y : ℕ) → RankOrUnmarked m c x → RankOrUnmarked m c y → x ≡ y
  rank_only x y (inl (h, r)) (inl (l, q)) = rank_unique r q
  rank_only x y (inl (h, r)) (inr (e, n)) = absurd (n (r.some, r.visitor))
  rank_only x y (inr (e, n)) (inl (l, q)) = absurd (n (q.some, q.visitor))
  rank_only x y (inr (e, n)) (inr (f, o)) = e ∙ sym f

  -- and so is what a list of weights holds
  pub weight_only : Sound m → (x y : ℕ) → WeightOrNone m c x → WeightOrNone m c y → x ≡ y
  weight_only ok x y (inl (vs, r, e)) (inl (ws, q, f)) =
      let g = multi_unique ok c vs ws r q in
      omega (arith, ap (λ (us : List ℕ). multiples m us * extra + length us) g)
  weight_only ok x y (inl (vs, r, e)) (inr (f, n)) = absurd (n (vs, r.visitor))
  weight_only ok x y (inr (e, n)) (inl (vs, r, f)) = absurd (n (vs, r.visitor))
  weight_only ok x y (inr (e, n)) (inr (f, o)) = e ∙ sym f

  -- and what a list of parents holds
  pub parent_only : (x p q : ℕ) → WeightOrNone m c x → ParentOrNone m c p → ParentOrNone m c q → p ≡ q
  parent_only x p q (inl (vs, r, e)) y z = y.parent vs r ∙ sym (z.parent vs r)
  parent_only x p q (inr (e, n)) y z = y.none n ∙ sym (z.none n)

module _ {m : Machine} where
  pub mark_only : {R R₁ R₂ : List ℕ} {a b : Answer} → MarkedAs m R a R₁ → MarkedAs m R b R₂ → (a ≡ b) × (R₁ ≡ R₂)
  mark_only {R} {R₁} {R₂} {a} {b} x y =
      let e = judged_unique x.verdict y.verdict in
      (e, left_unique (λ _ c p q _. rank_only p q) x.ranks (subst (λ (w : Answer). MarkedAs m R w R₂) (sym e) y).ranks)

  pub mark_parents_only : {R W P R₁ W₁ P₁ R₂ W₂ P₂ : List ℕ} {a b : Answer} → ParentedAs m R W P a R₁ W₁ P₁ → ParentedAs m R W P b R₂ W₂ P₂
      → (a ≡ b) × (R₁ ≡ R₂) × (W₁ ≡ W₂) × (P₁ ≡ P₂)
  mark_parents_only {R} {W} {P} {W₁ = W₁} {R₂ = R₂} {W₂} {P₂} {a} x y =
      let e = judged_unique x.verdict y.verdict in
      let z = subst (λ (w : Answer). ParentedAs m R W P w R₂ W₂ P₂) (sym e) y in (
        e,
        left_unique (λ _ c p q _. rank_only p q) x.ranks z.ranks,
        left_unique (λ k c p q _. weight_only (sound k) p q) x.weights z.weights,
        left_unique (λ k c p q h. parent_only (get_or W₁ c 0) p q ((x.weights.filled k).needed c h)) x.parents z.parents,
      )
    where
      sound : (a.number ≡ 0) ⊎ (14 ≤ a.number) → Sound m
      sound (inl e) = (parents_checked m (judged_passes 13 x.verdict refl e)).sound
      sound (inr l) = absurd (omega (arith, (judged_number 1 13 x.verdict refl (λ e. omega arith)).1))
