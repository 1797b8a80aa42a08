-- What tests and searches tell: a test decides a fact, a search that has seen nothing below i goes on, finds at i or ends, and each
-- has one answer.
use mathlib.Core.Path.{◌≡◌, refl, sym, ap, ◌∙◌}
use mathlib.Core.Bool.{Bool, true, false, not, ◌&&◌, cond}
use mathlib.Core.Logic.{◌⊎◌, ⊎_elim, inl, inr}
use Prim.Native.Nat.{ℕ, ◌+◌, ◌≤◌, ◌<◌}
use native.Mathlib.Omega.{arith}
use native.Mathlib.Nat.{not-le_of_lt, not-suc-le-zero}
use lib.Dec.{eqb, leb, ltb}
use borrow.Author.Tests.{eqb-true, eqb-false, leb-true, leb-false, ltb-true, ltb-false}
use borrow.Author.Count.{below_more}
use Rattle.std.specs.Prelude.{Option, Some, None}
use Rattle.verdict.specs.Checks.{Decides, Finds, Least, Nowhere, Unless, Within}

pub true≢false : true ≡ false → ⊥
true≢false e = eqb-false 0 1 refl (ap (λ (t : Bool). elim t [ true ↦ 0 | false ↦ 1 ]) e)

pub it_holds : {P : Type 0} → P → Decides P true
it_holds p = record { holds = λ e. p; fails = λ e q. true≢false e }

pub it_fails : {P : Type 0} → (P → ⊥) → Decides P false
it_fails n = record { holds = λ e. absurd (true≢false (sym e)); fails = λ e p. n p }

pub decides_eqb : {P : Type 0} (a b : ℕ) → (a ≡ b → P) → (P → a ≡ b) → Decides P (eqb a b)
decides_eqb a b f g = record { holds = λ e. f (eqb-true a b e); fails = λ e p. eqb-false a b e (g p) }

pub decides_leb : {P : Type 0} (a b : ℕ) → (a ≤ b → P) → (P → a ≤ b) → Decides P (leb a b)
decides_leb a b f g = record { holds = λ e. f (leb-true a b e); fails = λ e p. not-le_of_lt (leb-false a b e) (g p) }

pub decides_lt : {P : Type 0} (a b : ℕ) → (a < b → P) → (P → a < b) → Decides P (ltb a b)
decides_lt a b f g = record { holds = λ e. f (ltb-true a b e); fails = λ e p. not-le_of_lt (g p) (ltb-false a b e) }

pub decides_map : {P Q : Type 0} {t : Bool} → (P → Q) → (Q → P) → Decides P t → Decides Q t
decides_map f g d = record { holds = λ e. f (d.holds e); fails = λ e q. d.fails e (g q) }

pub decides_equal : (a b : ℕ) → Decides (a ≡ b) (eqb a b)
decides_equal a b = decides_eqb a b (λ e. e) (λ e. e)

pub decides_below : (a b : ℕ) → Decides (a < b) (ltb a b)
decides_below a b = decides_lt a b (λ e. e) (λ e. e)

pub decides_at_most : (a b : ℕ) → Decides (a ≤ b) (leb a b)
decides_at_most a b = decides_leb a b (λ h. h) (λ h. h)

pub decides_true : (b : Bool) → Decides (b ≡ true) b
decides_true b = record { holds = λ e. e; fails = λ e h. true≢false (sym h ∙ e) }

pub decides_not : {P : Type 0} {b : Bool} → Decides P b → Decides (P → ⊥) (not b)
decides_not {b = true} d = it_fails (λ n. n (d.holds refl))
decides_not {b = false} d = it_holds (d.fails refl)

-- two tests, one also with the other
infixl 35 ◌also◌
pub ◌also◌ : {a b : Bool} {P Q : Type 0} → Decides P a → Decides Q b → Decides (P × Q) (a && b)
◌also◌ {a = true} d f = decides_map (λ q. (d.holds refl, q)) (λ x. x.1) f
◌also◌ {a = false} d f = it_fails (λ x. d.fails refl x.0)

pub decides_either : {P Q : Type 0} {a b : Bool} → Decides P a → Decides Q b → Decides (P ⊎ Q) (cond a true b)
decides_either {a = true} d f = it_holds (inl (d.holds refl))
decides_either {a = false} d f = decides_map inr (⊎_elim (λ p. absurd (d.fails refl p)) (λ q. q)) f

pub decides_if : {P Q : Type 0} {a b : Bool} → Decides P a → Decides Q b → Decides (P → Q) (cond a b true)
decides_if {a = true} d f = decides_map (λ q _. q) (λ g. g (d.holds refl)) f
decides_if {a = false} d f = it_holds (λ p. absurd (d.fails refl p))

-- what is tested holds or does not, and a test of what holds says so
pub decides_or : {P : Type 0} {b : Bool} → Decides P b → P ⊎ (P → ⊥)
decides_or {b = true} d = inl (d.holds refl)
decides_or {b = false} d = inr (d.fails refl)

pub decides_cases : {P : Type 0} {b : Bool} → Decides P b → ((b ≡ true) × P) ⊎ ((b ≡ false) × (P → ⊥))
decides_cases {b = true} d = inl (refl, d.holds refl)
decides_cases {b = false} d = inr (refl, d.fails refl)

pub decides_is : {P : Type 0} {b : Bool} → Decides P b → P → b ≡ true
decides_is {b = true} d p = refl
decides_is {b = false} d p = absurd (d.fails refl p)

-- the same search, of a predicate that says the same
pub finds_map : (F G : ℕ → Type 0) (x : Option ℕ) → ((p : ℕ) → F p → G p) → ((p : ℕ) → G p → F p) → Finds F x → Finds G x
finds_map F G (Some p) to from l = record { here = to p l.here; first = λ q h g. l.first q h (from q g) }
finds_map F G None to from n = record { nowhere = λ p g. n.nowhere p (from p g) }

-- faults of what is fit
pub within : {G : Type 0} (F : ℕ → Type 0) (x : Option ℕ) → G → Finds F x → Finds (Within G F) x
within F x g = finds_map F _ x (λ p f. record { fit = g; fault = f }) (λ p w. w.fault)

-- F at none of the places below i: the invariant of a search
pub record Unseen (F : ℕ → Type 0) (i : ℕ) : Type 0 where
  pub none : (k : ℕ) → k < i → F k → ⊥

pub unseen_start : {F : ℕ → Type 0} → Unseen F 0
unseen_start = record { none = λ k h p. omega arith }

pub unseen_more : {F : ℕ → Type 0} {i : ℕ} → Unseen F i → (F i → ⊥) → Unseen F (i + 1)
unseen_more {F} {i} u h = record { none = below_more (λ (k : ℕ). F k → ⊥) i u.none h }

pub unseen_at : {F : ℕ → Type 0} {i j : ℕ} → Unseen F i → j ≤ i → Unseen F j
unseen_at u h = record { none = λ k l. u.none k (omega arith) }

pub unseen_here : {F : ℕ → Type 0} {i : ℕ} → Unseen F i → F i → Least F i
unseen_here u f = record { here = f; first = u.none }

pub unseen_end : {F : ℕ → Type 0} {i : ℕ} → Unseen F i → ((k : ℕ) → F k → k < i) → Nowhere F
unseen_end u all = record { nowhere = λ p f. u.none p (all p f) f }

-- a check of the whole input
pub whole : {P : Type 0} → (P → ⊥) → Least (Unless P) 0
whole n = record { here = (refl, n); first = λ p l. absurd (not-suc-le-zero l) }

pub meets : {P : Type 0} → P → Nowhere (Unless P)
meets h = record { nowhere = λ p f. f.1 h }

-- a least place is one
pub least_unique : {fails : ℕ → Type 0} {p q : ℕ} → Least fails p → Least fails q → p ≡ q
least_unique {fails} {p} {q} a b =
    let l : p < q → ⊥ = λ h. b.first p h a.here in
    let g : q < p → ⊥ = λ h. a.first q h b.here in
    omega arith

-- a test has one answer
pub decides_unique : (P : Type 0) (a b : Bool) → Decides P a → Decides P b → a ≡ b
decides_unique P true true d f = refl
decides_unique P false false d f = refl
decides_unique P true false d f = absurd (f.fails refl (d.holds refl))
decides_unique P false true d f = absurd (d.fails refl (f.holds refl))
