-- What shortening leaves visits the same couples as the plan lent, and no single run left is superfluous: the laws of the pass, over what
-- the buffer holds after success.
use mathlib.Core.Path.{◌≡◌, sym, ap, subst, subst₂, ◌∙◌}
use mathlib.Core.Logic.{◌↔◌}
use mathlib.Core.List.{List}
use Prim.Native.Nat.{ℕ}
use lib.ListN.{take}
use Rattle.verdict.specs.declared.Answer.{Answer}
use Rattle.machine.specs.Lists.{In}
use Rattle.machine.specs.Runs.{Machine}
use Rattle.machine.specs.Plans.{VisitedBy, stored, runs_in}
use Rattle.machine.proofs.Stored.{split_stored}
use Rattle.shorten.specs.Shortening.{NoneSuperfluous, Shortened, ShortenedAs}
use Rattle.shorten.proofs.Pass.{left_in, same_visits, none_superfluous}
use Rattle.shorten.proofs.Once.{held}

module _ {m : Machine} {plan₀ plan₁ : List ℕ} {a : Answer} (p : ShortenedAs m plan₀ a plan₁) (e : a.number ≡ 0) where
  short : Shortened m plan₀ (take a.place plan₁)
  short = held p e

  lent : runs_in plan₀ ≡ short.runs
  lent = ap runs_in short.splits ∙ split_stored short.runs

  left : runs_in (take a.place plan₁) ≡ short.left
  left = ap runs_in short.stores ∙ split_stored short.left

  -- the bytes left are stored runs
  pub left_stored : stored (runs_in (take a.place plan₁)) ≡ take a.place plan₁
  left_stored = ap stored left ∙ sym short.stores

  -- of the plan lent
  pub left_lent : (vs : List ℕ) → In vs (runs_in (take a.place plan₁)) → In vs (runs_in plan₀)
  left_lent vs i = subst (In vs) (sym lent) (left_in short.shortens vs (subst (In vs) left i))

  pub same_couples : (c : ℕ) → VisitedBy m c (runs_in (take a.place plan₁)) ↔ VisitedBy m c (runs_in plan₀)
  same_couples c = subst₂ (λ (x y : List (List ℕ)). VisitedBy m c x ↔ VisitedBy m c y) (sym left) (sym lent) (same_visits short.shortens c)

  pub no_run_over : NoneSuperfluous m (runs_in (take a.place plan₁))
  no_run_over = subst (NoneSuperfluous m) (sym left) (none_superfluous short.shortens)
