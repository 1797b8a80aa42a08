-- The rules, by their records: those of a state, and those of an evolution. By the test that tells them apart.
use mathlib.Core.Path.{◌≡◌, sym, ◌∙◌}
use mathlib.Core.Logic.{⊎_elim}
use mathlib.Core.List.{List}
use Prim.Native.Nat.{ℕ, ◌≤◌, ◌<◌}
use borrow.Author.Tests.{lt-ltb, le-ltb}
use Rattle.machine.proofs.Order.{below_or}
use Rattle.specification.specs.Records.{source, target}
use Rattle.specification.specs.Rules.{rule_of, leads_to}
use Rattle.specification.specs.declared.records.Sizes.{Sizes}

module _ (file : List ℕ) (z : Sizes) (r : ℕ) where
  pub rule_state : r < z.states → rule_of file z r ≡ r
  unfolding rule_of
  rule_state h = rw (lt-ltb _ _ h)

  pub rule_evolution : z.states ≤ r → rule_of file z r ≡ source file z r
  unfolding rule_of
  rule_evolution h = rw (le-ltb _ _ h)

  -- a rule of a state other than its own record is an evolution
  pub rule_other : {s : ℕ} → rule_of file z r ≡ s → (r ≡ s → ⊥) → z.states ≤ r
  rule_other is not = ⊎_elim (λ l. absurd (not (sym (rule_state l) ∙ is))) (λ h. h) (below_or r z.states)

  pub leads_state : r < z.states → leads_to file z r ≡ r
  unfolding leads_to
  leads_state h = rw (lt-ltb _ _ h)

  pub leads_evolution : z.states ≤ r → leads_to file z r ≡ target file z r
  unfolding leads_to
  leads_evolution h = rw (le-ltb _ _ h)
