-- `next_rule` searches the later records for a rule of the same state; where there is none it is their number.
use Rattle.std.specs.Prelude.{Option, Some, None}
use Rattle.std.specs.Option.{MatchOption, unwrap_or}
use Rattle.std.proofs.Common.{◌≡◌, ℕ, ◌+◌, ◌≤◌, ◌<◌, List, sym, ap, subst, ◌∙◌, arith, rules, tests}
use Rattle.std.proofs.lemmas.Iterator.{first_from_Range}
use Rattle.specification.specs.Records.{records}
use Rattle.specification.specs.Rules.{rule_of}
use Rattle.specification.specs.inner.Private.{Follows}
use Rattle.specification.specs.declared.records.Sizes.{Sizes}
use Rattle.specification.proofs.records.Records.next_rule.Goals as goal

follows : {file : List ℕ} {z : Sizes} {r : ℕ} (o : Option ℕ) → r < records z
    → MatchOption o ((k : ℕ) → r + 1 ≤ k → k < records z → rule_of file z k ≡ rule_of file z r → ⊥) (λ i. (r + 1 ≤ i) × (i < records z) × (rule_of file z i ≡ rule_of file z r) × ((k : ℕ) → r + 1 ≤ k → k < i → rule_of file z k ≡ rule_of file z r → ⊥))
    → Follows file z r (unwrap_or o (records z))
follows (Some i) h m = record { after = omega (arith, m.0); upto = omega (arith, m.1); same = λ _. m.2; between = λ q b l. m.3 q (omega arith) b }
follows None h m = record { after = h; upto = omega arith; same = λ b. absurd (omega arith); between = λ q b l. m q (omega arith) b }

pub returns : goal.returns
returns c =
    let f = c.args.self.file.now in
    let z = c.args.self.z in
    let r = c.args.r in
    let n = c.count-2.ensures in
    subst (Follows f z r) (ap (unwrap_or c.find.result) (sym n) ∙ sym c.unwrap_or.ensures) (follows c.find.result c.requires
    (subst (λ (n : ℕ). MatchOption c.find.result ((k : ℕ) → r + 1 ≤ k → k < n → rule_of f z k ≡ rule_of f z r → ⊥) (λ i. (r + 1 ≤ i) × (i < n) × (rule_of f z i ≡ rule_of f z r) × ((k : ℕ) → r + 1 ≤ k → k < i → rule_of f z k ≡ rule_of f z r → ⊥))) c.count.ensures
    (first_from_Range _ _ _ _ (λ k. rule_of f z k ≡ rule_of f z r) (λ k. rule_of f z k ≡ rule_of f z r → ⊥) c.find.ensures.ran
    (λ k q h. search (rules, tests))
    (λ k q h. (search rules, search (rules, tests))))))
