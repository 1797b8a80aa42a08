-- The two forms of a file: its mark, and what it is for a record to hold. In a file without rest conditions some rule of each state holds
-- at each setting, since its rest is where no evolution does; so 9 cannot occur, and 8 is of two evolutions.
use mathlib.Core.Path.{◌≡◌, sym, ap, ◌∙◌}
use mathlib.Core.Bool.{Bool, true, false}
use mathlib.Core.Logic.{⊎_elim}
use mathlib.Core.List.{List}
use Prim.Native.Char.{code}
use Prim.Native.Nat.{ℕ, ◌≤◌, ◌<◌}
use native.Mathlib.Omega.{arith}
use lib.ListN.{take}
use lib.Dec.{eqb}
use Rattle.verdict.specs.Checks.{Nowhere}
use Rattle.machine.proofs.Order.{below_or}
use Rattle.specification.specs.File.{mark, rests_of}
use Rattle.specification.specs.Records.{sizes_of, Evolves}
use Rattle.specification.specs.Rules.{text_of, Idle, HoldsAt, by_text, by_rest, Fires, Two, NoRule}
use Rattle.condition.specs.Condition.{Holds}
use Rattle.specification.specs.declared.records.Sizes.{Sizes}
use Rattle.specification.proofs.Laws.{prefix_at}
use Rattle.specification.proofs.Firing.{rule_state, rule_evolution, rule_other}

-- a file that has the mark of a form is of that form
module _ (file : List ℕ) where
  pub own_form : (rests : Bool) → take 4 file ≡ mark rests → rests_of file ≡ rests
  own_form true e = ap (λ c. eqb c (code "1")) (prefix_at file (mark true) 3 (omega arith) e)
  own_form false e = ap (λ c. eqb c (code "1")) (prefix_at file (mark false) 3 (omega arith) e)

  pub own_mark : (rests : Bool) → take 4 file ≡ mark rests → take 4 file ≡ mark (rests_of file)
  own_mark rests e = e ∙ ap mark (sym (own_form rests e))

  pub other_mark : (take 4 file ≡ mark true → ⊥) → take 4 file ≡ mark (rests_of file) → take 4 file ≡ mark false
  other_mark n e = by (rests_of file) e
    where
      by : (rests : Bool) → take 4 file ≡ mark rests → take 4 file ≡ mark false
      by true e = absurd (n e)
      by false e = e

  -- each record has a condition, or those of the evolutions
  pub all_worded : rests_of file ≡ true → (sizes_of file).worded ≡ 0
  all_worded e = rw e

  pub evolutions_worded : rests_of file ≡ false → (sizes_of file).worded ≡ (sizes_of file).states
  evolutions_worded e = rw e

-- a record holds by its condition, or by rest
module _ {file : List ℕ} {z : Sizes} {v r : ℕ} where
  pub of_text : z.worded ≤ r → HoldsAt file z v r → Holds z.inputs v (text_of file z r)
  of_text h (by_text _ t) = t
  of_text h (by_rest l _) = absurd (omega arith)

  pub of_rest : r < z.worded → HoldsAt file z v r → Idle file z r v
  of_rest h (by_text l _) = absurd (omega arith)
  of_rest h (by_rest _ i) = i

-- without rest conditions a state rests where no evolution from it holds
pub never_no_rule : (file : List ℕ) (z : Sizes) (m : ℕ) → z.worded ≡ z.states → Nowhere (NoRule file z m)
never_no_rule file z m e =
    record {
      nowhere = λ p x.
          let h = x.couple.state in
          x.none x.s (record {
            below = omega arith;
            rule = rule_state file z x.s h;
            holds = by_rest (omega arith) (record {
              none = λ r k from t. x.none r (record { below = k.below; rule = rule_evolution file z r k.after ∙ from; holds = by_text (omega (arith, k.after)) t });
            });
          });
    }

-- two rules that hold are two evolutions, since the state's own record holds where none does
pub two_evolve : {file : List ℕ} {z : Sizes} {s v : ℕ} → z.worded ≡ z.states → (t : Two (Fires file z s v)) → Evolves z t.low × Evolves z t.high
two_evolve {file} {z} e t = ⊎_elim
    (λ h.
    let own = rule_state file z t.low h in
    let is = t.other.rule ∙ sym t.one.rule ∙ own in
    let k = rule_other file z t.high is (λ q. omega (arith, t.differ)) in
    absurd ((of_rest (omega arith) t.one.holds).none t.high (record { after = k; below = t.other.below }) (sym (rule_evolution file z t.high k) ∙ is) (of_text (omega arith) t.other.holds)))
    (λ h. (record { after = h; below = t.one.below }, record { after = omega (arith, t.differ); below = t.other.below }))
    (below_or t.low z.states)
