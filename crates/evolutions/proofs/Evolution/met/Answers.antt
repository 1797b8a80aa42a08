-- The condition of an evolution's record: it asks the part of the file that the record names, where it lies within the file.
use Rattle.std.proofs.Common.{arith, rules, ℕ, ◌+◌, ◌-◌, List, Option, Some, None, MatchOption, Bool, false, ◌≡◌, subst, sym, ap₂, ◌∙◌, take, drop}
use Rattle.verdict.specs.Checks.{Decides}
use Rattle.verdict.proofs.Tests.{it_fails, decides_map}
use Rattle.condition.specs.Condition.{Holds}
use Rattle.evolutions.proofs.Evolution.met.Goals as goal

by_part : {X P : Type 0} {b : Bool} (N : Type 0) (S Q : X → Type 0) (o : Option X) → MatchOption o N S → MatchOption o (b ≡ false) Q → (N → P → ⊥)
    → ((x : X) → S x → Q x → Decides P b) → Decides P b
by_part {P = P} N S Q None s q none some = subst (Decides P) (sym q) (it_fails (none s))
by_part N S Q (Some x) s q none some = some x s q

-- k bytes of a file, from `at` on
part : (file : List ℕ) {at a k n : ℕ} → at ≡ a → k ≡ n → take (at + k - at) (drop at file) ≡ take n (drop a file)
part file {at} {k = k} {n} e f = let l : at + k - at ≡ n = omega arith in ap₂ (λ (i j : ℕ). take i (drop j file)) l e

pub returns : goal.returns
returns c =
    by_part _ _ _ c.get.result c.get.ensures.lookup.0 c.is_some_and.ensures (λ n m. grind (arith, m.inside)) (λ x s q.
    let h : Decides (Holds c.args.inputs c.args.setting x.now) c.is_some_and.result = search rules in
    let e : x.now ≡ take c.args.self.length (drop c.args.self.at c.args.file.now) = s.2 ∙ part c.args.file.now c.from-at.ensures c.from.ensures in
    decides_map (λ g. record { inside = omega arith; holds = subst (Holds _ _) e g }) (λ m. subst (Holds _ _) (sym e) m.holds) h)
