-- Laws of the order of checks: a list of checks has one verdict, so that a pass excludes a refusal, and verdicts of two lists join,
-- each by induction on the list.
use mathlib.Core.Path.{◌≡◌, refl, sym, ap₂, ◌∙◌}
use mathlib.Core.List.{List, [], ◌∷◌, ◌++◌}
use mathlib.Core.Bool.{Bool, true, ◌&&◌}
use mathlib.Core.Logic.{⊎_elim}
use Prim.Native.Nat.{ℕ, ◌≤◌, ◌<◌}
use lib.Dec.{leb}
use native.Mathlib.Omega.{arith}
use Rattle.verdict.specs.Checks.{Least, Nowhere, Check, check, Then, refused, next, Verdict, Passed, Unless, Short, Within, Past, Judged}
use Rattle.verdict.specs.declared.Answer.{Answer}
use Rattle.verdict.proofs.Tests.{least_unique, decides_at_most, decides_true, ◌also◌}

pub same_answer : (a b : Answer) → a.number ≡ b.number → a.place ≡ b.place → a ≡ b
same_answer a b n p = ap₂ (λ (m q : ℕ). record { number = m; place = q }) n p

pub passed_unique : (a b : Answer) → Passed a → Passed b → a ≡ b
passed_unique a b p q = same_answer a b (p.number ∙ sym q.number) (p.place ∙ sym q.place)

-- each number is between two bounds: a test, which a list of checks passes by `refl`
abbrev numbers : ℕ → ℕ → List Check → Bool
numbers low high [] = true
numbers low high (c ∷ cs) = leb low c.number && (leb c.number high && numbers low high cs)

abbrev pub Numbered : ℕ → ℕ → List Check → Type 0
Numbered low high cs = numbers low high cs ≡ true

within : (low high : ℕ) (c : Check) (cs : List Check) → Numbered low high (c ∷ cs) → (low ≤ c.number) × ((c.number ≤ high) × Numbered low high cs)
within low high c cs e =
    (decides_at_most low c.number also (decides_at_most c.number high also decides_true (numbers low high cs))).holds e

-- no check fails

abbrev pub Passes : List Check → Type 0
Passes [] = Unit {0}
Passes (c ∷ cs) = Nowhere c.fails × Passes cs

-- one answer, where success has one once no check fails
pub verdict_unique : (cs : List Check) (done : Answer → Type 0) (only : Passes cs → (a b : Answer) → done a → done b → a ≡ b) (a b : Answer) → Verdict cs done a → Verdict cs done b → a ≡ b
verdict_unique [] done only a b v w = only tt a b v w
verdict_unique (c ∷ cs) done only a b (refused l n) (refused m o) = same_answer a b (n ∙ sym o) (least_unique l m)
verdict_unique (c ∷ cs) done only a b (refused l n) (next m w) = absurd (m.nowhere a.place l.here)
verdict_unique (c ∷ cs) done only a b (next n v) (refused l m) = absurd (n.nowhere b.place l.here)
verdict_unique (c ∷ cs) done only a b (next n v) (next m w) = verdict_unique cs done (λ p. only (n, p)) a b v w

module _ (done : Answer → Type 0) where
  on : (cs ds : List Check) (high : ℕ) (a b : Answer) → Numbered 1 high cs → Verdict cs Passed a → a.number ≡ 0 → Verdict ds done b → Verdict (cs ++ ds) done b
  on [] ds high a b num v e w = w
  on (c ∷ cs) ds high a b num (refused l n) e w = absurd (omega (arith, (within 1 high c cs num).0))
  on (c ∷ cs) ds high a b num (next n v) e w = next n (on cs ds high a b (within 1 high c cs num).1.1 v e w)

  stop : (cs ds : List Check) (a : Answer) → Verdict cs Passed a → (a.number ≡ 0 → ⊥) → Verdict (cs ++ ds) done a
  stop [] ds a v e = absurd (e v.number)
  stop (c ∷ cs) ds a (refused l n) e = refused l n
  stop (c ∷ cs) ds a (next n v) e = next n (stop cs ds a v e)

-- a verdict that did not refuse goes on with the next list
pub judged_on : {cs ds : List Check} {done : Answer → Type 0} {a b : Answer} (high : ℕ) → Judged cs Passed a → Numbered 1 high cs → a.number ≡ 0 → Judged ds done b → Judged (cs ++ ds) done b
judged_on {cs} {ds} {done} {a} {b} high v num e w = record { verdict = on done cs ds high a b num v.verdict e w.verdict }

-- one that refused is that of the longer list
pub judged_stop : {cs : List Check} (ds : List Check) {done : Answer → Type 0} {a : Answer} → Judged cs Passed a → (a.number ≡ 0 → ⊥) → Judged (cs ++ ds) done a
judged_stop {cs} ds {done} {a} v e = record { verdict = stop done cs ds a v.verdict e }

passes : (cs : List Check) (done : Answer → Type 0) (high : ℕ) (a : Answer) → Numbered 1 high cs → Verdict cs done a → a.number ≡ 0 → Passes cs
passes [] done high a num v e = tt
passes (c ∷ cs) done high a num (refused l n) e = absurd (omega (arith, (within 1 high c cs num).0))
passes (c ∷ cs) done high a num (next n v) e = (n, passes cs done high a (within 1 high c cs num).1.1 v e)

-- one that did not refuse: no check fails
pub judged_passes : {cs : List Check} {done : Answer → Type 0} {a : Answer} (high : ℕ) → Judged cs done a → Numbered 1 high cs → a.number ≡ 0 → Passes cs
judged_passes {cs} {done} {a} high v num e = passes cs done high a num v.verdict e

reaches : (cs : List Check) (done : Answer → Type 0) (high : ℕ) (a : Answer) → Numbered 1 high cs → Verdict cs done a → a.number ≡ 0 → done a
reaches [] done high a num v e = v
reaches (c ∷ cs) done high a num (refused l n) e = absurd (omega (arith, (within 1 high c cs num).0))
reaches (c ∷ cs) done high a num (next n v) e = reaches cs done high a (within 1 high c cs num).1.1 v e

-- and it ended in success
pub judged_done : {cs : List Check} {done : Answer → Type 0} {a : Answer} (high : ℕ) → Judged cs done a → Numbered 1 high cs → a.number ≡ 0 → done a
judged_done {cs} {done} {a} high v num e = reaches cs done high a num v.verdict e

number : (cs : List Check) (low high : ℕ) (a : Answer) → Numbered low high cs → Verdict cs Passed a → (a.number ≡ 0 → ⊥) → (low ≤ a.number) × (a.number ≤ high)
number [] low high a num v e = absurd (e v.number)
number (c ∷ cs) low high a num (refused l n) e = let (i, (j, _)) = within low high c cs num in (omega arith, omega arith)
number (c ∷ cs) low high a num (next n v) e = number cs low high a (within low high c cs num).1.1 v e

-- the number of a refusal
pub judged_number : {cs : List Check} {a : Answer} (low high : ℕ) → Judged cs Passed a → Numbered low high cs → (a.number ≡ 0 → ⊥) → (low ≤ a.number) × (a.number ≤ high)
judged_number {cs} {a} low high v num e = number cs low high a num v.verdict e

-- a front that passed, taken off a list of checks
rest : (cs ds : List Check) (done : Answer → Type 0) (a : Answer) → Passes cs → Verdict (cs ++ ds) done a → Verdict ds done a
rest [] ds done a p v = v
rest (c ∷ cs) ds done a p (refused l n) = absurd (p.0.nowhere a.place l.here)
rest (c ∷ cs) ds done a p (next n v) = rest cs ds done a p.1 v

pub judged_rest : (cs : List Check) {ds : List Check} {done : Answer → Type 0} {a : Answer} → Passes cs → Judged (cs ++ ds) done a → Judged ds done a
judged_rest cs {ds} {done} {a} p v = record { verdict = rest cs ds done a p v.verdict }

-- a verdict whose number is not among those of a front: the front passed
past : (cs ds : List Check) (done : Answer → Type 0) (high : ℕ) (a : Answer) → Numbered 1 high cs → Past high a.number → Verdict (cs ++ ds) done a → Passes cs
past [] ds done high a num n v = tt
past (c ∷ cs) ds done high a num n (refused l e) = let (i, (j, _)) = within 1 high c cs num in absurd (⊎_elim (λ z. omega (arith, z)) (λ k. omega (arith, k)) n)
past (c ∷ cs) ds done high a num n (next m v) = (m, past cs ds done high a (within 1 high c cs num).1.1 n v)

pub judged_past : (cs : List Check) {ds : List Check} {done : Answer → Type 0} {a : Answer} (high : ℕ) → Judged (cs ++ ds) done a → Numbered 1 high cs → Past high a.number → Passes cs × Judged ds done a
judged_past cs {ds} {done} {a} high v num n = let p = past cs ds done high a num n v.verdict in (p, judged_rest cs p v)

-- a check passed, a check that refuses
pub pass : {F : ℕ → Type 0} {n : ℕ} {cs : List Check} {done : Answer → Type 0} {a : Answer} → Nowhere F → Judged cs done a → Judged (check n F ∷ cs) done a
pass n v = record { verdict = next n v.verdict }

pub halt : {F : ℕ → Type 0} {n p : ℕ} {cs : List Check} {done : Answer → Type 0} → Least F p → Judged (check n F ∷ cs) done (record { number = n; place = p })
halt l = record { verdict = refused l refl }

pub ends : Judged [] Passed (record { number = 0; place = 0 })
ends = record { verdict = record { number = refl; place = refl } }

-- one answer, where success has one
pub judged_once : {cs : List Check} {done : Answer → Type 0} {a b : Answer} → (Passes cs → (a b : Answer) → done a → done b → a ≡ b) → Judged cs done a → Judged cs done b → a ≡ b
judged_once {cs} {done} {a} {b} one v w = verdict_unique cs done one a b v.verdict w.verdict

pub judged_only : {cs : List Check} {done : Answer → Type 0} {a b : Answer} → ((a b : Answer) → done a → done b → a ≡ b) → Judged cs done a → Judged cs done b → a ≡ b
judged_only one v w = judged_once (λ _. one) v w

pub judged_unique : {cs : List Check} {a b : Answer} → Judged cs Passed a → Judged cs Passed b → a ≡ b
judged_unique v w = judged_only passed_unique v w

-- a buffer too short
pub short : {needed has p : ℕ} → p ≡ needed → has < needed → Least (Short needed has) p
short e h = record { here = (e, h); first = λ q l f. let g = f.0 in omega arith }

pub long : {needed has : ℕ} → needed ≤ has → Nowhere (Short needed has)
long h = record { nowhere = λ p f. let e = f.1 in omega arith }

pub roomy : {needed has : ℕ} → Nowhere (Short needed has) → needed ≤ has
roomy {needed} {has} n = let f : has < needed → ⊥ = λ h. n.nowhere needed (refl, h) in omega arith

module _ {F : ℕ → Type 0} {n : ℕ} {cs : List Check} {done : Answer → Type 0} {a : Answer} where
  -- the first check refused, or the rest decided
  pub judged_or : {P : Type 0} → Judged (check n F ∷ cs) done a → (Least F a.place → a.number ≡ n → P) → (Nowhere F → Judged cs done a → P) → P
  judged_or {P} v f g = by v.verdict
    where
      by : Then F n (Verdict cs done a) a → P
      by (refused l e) = f l e
      by (next m w) = g m (record { verdict = w })

  -- a check that fails at the same places, in front of a list that says the same
  pub judged_row : {G : ℕ → Type 0} {ds : List Check} {end : Answer → Type 0} → ((p : ℕ) → F p → G p) → ((p : ℕ) → G p → F p) → (Nowhere G → Judged cs done a → Judged ds end a)
      → Judged (check n F ∷ cs) done a → Judged (check n G ∷ ds) end a
  judged_row {G} to from then v =
      judged_or v
      (λ l e. record { verdict = refused (record { here = to _ l.here; first = λ p h g. l.first p h (from p g) }) e })
      (λ m w. let none : Nowhere G = record { nowhere = λ p g. m.nowhere p (from p g) } in pass none (then none w))

  -- the same check
  pub judged_same : {ds : List Check} {end : Answer → Type 0} → (Judged cs done a → Judged ds end a) → Judged (check n F ∷ cs) done a → Judged (check n F ∷ ds) end a
  judged_same f = judged_row (λ p x. x) (λ p x. x) (λ _. f)

-- the check of what is fit, where it is
pub judged_within : {G : Type 0} {F : ℕ → Type 0} {n : ℕ} {cs : List Check} {done : Answer → Type 0} {a : Answer} → G → Judged (check n (Within G F) ∷ cs) done a → Judged (check n F ∷ cs) done a
judged_within g = judged_row (λ p x. x.fault) (λ p f. record { fit = g; fault = f }) (λ _ v. v)

-- where P is not met, nor is what P follows from
pub unless : {P Q : Type 0} → (Q → P) → (p : ℕ) → Unless P p → Unless Q p
unless f p x = (x.0, λ q. x.1 (f q))
