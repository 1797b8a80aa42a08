-- Laws of lent buffers: filling grows an element at a time and composes, and what a job leaves is one buffer where its values are
-- one, by cases on the number it answers.
use mathlib.Core.Path.{◌≡◌, refl, sym, ap, subst, ◌∙◌}
use mathlib.Core.List.{List, ◌++◌}
use mathlib.Core.Logic.{◌⊎◌, inl, inr}
use Prim.Native.Nat.{ℕ, ◌+◌, ◌-◌, ◌≤◌, ◌<◌}
use native.Mathlib.Omega.{arith}
use native.Mathlib.Decide.{dec_lt, ℕ_discrete}
use lib.ListN.{length, get_or, set, take, drop, length-set, length-drop}
use lib.Seq.{take_all, get_or-set_same, get_or-set_other, ext_get_or}
use borrow.Author.Count.{below_more}
use Rattle.verdict.specs.Buffers.{Filled, Left, Front, Written}

-- the rest of a list, lent on from an element to its end
pub rest_lent : (l : List ℕ) (i : ℕ) → take (length l - i) (drop i l) ≡ drop i l
rest_lent l i = take_all (length l - i) (drop i l) (rw length-drop (omega arith))

pub filled_none : {Value : ℕ → ℕ → Type 0} (a : List ℕ) → Filled 0 Value a a
filled_none a = record { same_length = refl; needed = λ c h. absurd (omega arith); beyond = λ c h. refl }

-- nothing is said of the first elements
pub filled_free : {t : ℕ} {Value : ℕ → ℕ → Type 0} (a : List ℕ) → ((c x : ℕ) → Value c x) → Filled t Value a a
filled_free a all = record { same_length = refl; needed = λ c h. all c _; beyond = λ c h. refl }

-- one element more
pub filled_more : {t x : ℕ} {Value : ℕ → ℕ → Type 0} {a b : List ℕ} → Filled t Value a b → t < length a → Value t x → Filled (t + 1) Value a (set b t x)
filled_more {t} {x} {Value} {a} {b} f l v =
    let h : t < length b = omega (arith, f.same_length) in
    record {
      same_length = length-set b t x ∙ f.same_length;
      needed = below_more (λ c. Value c (get_or (set b t x) c 0)) t
          (λ c k. let n : c ≡ t → ⊥ = λ e. omega arith in subst (Value c) (sym (get_or-set_other b t c x 0 n)) (f.needed c k))
          (subst (Value t) (sym (get_or-set_same b t x 0 h)) v);
      beyond = λ c k. let n : c ≡ t → ⊥ = λ e. omega arith in get_or-set_other b t c x 0 n ∙ f.beyond c (omega arith);
    }

pub filled_at : {t k : ℕ} {Value : ℕ → ℕ → Type 0} {a b : List ℕ} → Filled t Value a b → t ≡ k → Filled k Value a b
filled_at {Value = Value} {a} {b} f e = subst (λ k. Filled k Value a b) e f

-- the first elements may be anything
pub filled_widen : {t k : ℕ} {P Q : ℕ → ℕ → Type 0} {a b : List ℕ} → t ≤ k → ((c x : ℕ) → Q c x) → Filled t P a b → Filled k Q a b
filled_widen h all f = record { same_length = f.same_length; needed = λ c l. all c _; beyond = λ c l. f.beyond c (omega arith) }

pub filled_after : {t : ℕ} {P Q : ℕ → ℕ → Type 0} {a b d : List ℕ} → Filled t P a b → Filled t Q b d → Filled t Q a d
filled_after f g =
    record { same_length = g.same_length ∙ f.same_length; needed = g.needed; beyond = λ c h. g.beyond c h ∙ f.beyond c h }

pub filled_map : {t : ℕ} {P Q : ℕ → ℕ → Type 0} {a b : List ℕ} → ((c x : ℕ) → c < t → P c x → Q c x) → Filled t P a b → Filled t Q a b
filled_map m f = record { same_length = f.same_length; needed = λ c h. m c _ h (f.needed c h); beyond = f.beyond }

pub left_map : {number needed blank : ℕ} {P Q : ℕ → ℕ → Type 0} {a b : List ℕ} → ((c x : ℕ) → P c x → Q c x) → Left number needed blank P a b → Left number needed blank Q a b
left_map f l = record { unchanged = l.unchanged; blanked = l.blanked; filled = λ e. filled_map (λ c x _ y. f c x y) (l.filled e) }

pub written_map : {number : ℕ} {P Q : List ℕ → Type 0} {a b : List ℕ} → ((w : List ℕ) → P w → Q w) → Written number P a b → Written number Q a b
written_map f x = record { unchanged = x.unchanged; done = λ e. let (w, i, p) = x.done e in (w, f w i, p) }

-- one buffer
pub filled_unique : {t : ℕ} {Value : ℕ → ℕ → Type 0} {a b d : List ℕ} → ((c x y : ℕ) → c < t → Value c x → Value c y → x ≡ y) → Filled t Value a b → Filled t Value a d → b ≡ d
filled_unique {t} {Value} {a} {b} {d} one f g = ext_get_or 0 b d (f.same_length ∙ sym g.same_length) (λ i l. by i (dec_lt i t))
  where
    by : (i : ℕ) → Dec (i < t) → get_or b i 0 ≡ get_or d i 0
    by i (yes h) = one i _ _ h (f.needed i h) (g.needed i h)
    by i (no h) = let k : t ≤ i = omega arith in f.beyond i k ∙ sym (g.beyond i k)

-- what a number says of a filled buffer
data Kind (number : ℕ) : Type 0 where
  early : 1 ≤ number → number ≤ 3 → Kind number
  middle : 4 ≤ number → number ≤ 13 → Kind number
  filling : (number ≡ 0) ⊎ (14 ≤ number) → Kind number

kind : (number : ℕ) → Kind number
kind number = by (dec_lt number 1) (dec_lt number 4) (dec_lt number 14)
  where
    by : Dec (number < 1) → Dec (number < 4) → Dec (number < 14) → Kind number
    by (yes z) l m = Kind.filling (inl (omega arith))
    by (no z) (yes l) m = Kind.early (omega arith) (omega arith)
    by (no z) (no l) (yes m) = Kind.middle (omega arith) (omega arith)
    by (no z) (no l) (no m) = Kind.filling (inr (omega arith))

-- one buffer, where its values are one
pub left_unique : {number needed blank : ℕ} {Value : ℕ → ℕ → Type 0} {a b d : List ℕ} → ((number ≡ 0) ⊎ (14 ≤ number) → (c x y : ℕ) → c < needed → Value c x → Value c y → x ≡ y)
    → Left number needed blank Value a b → Left number needed blank Value a d → b ≡ d
left_unique {number} {needed} {blank} {Value} {a} {b} {d} one f g = by (kind number)
  where
    by : Kind number → b ≡ d
    by (Kind.early h l) = f.unchanged h l ∙ sym (g.unchanged h l)
    by (Kind.middle h l) = filled_unique (λ c x y k p q. p ∙ sym q) (f.blanked h l) (g.blanked h l)
    by (Kind.filling h) = filled_unique (one h) (f.filled h) (g.filled h)

pub written_unique : {number : ℕ} {Is : List ℕ → Type 0} {a b d : List ℕ} → (number ≡ 0 → (w u : List ℕ) → Is w → Is u → w ≡ u)
    → Written number Is a b → Written number Is a d → b ≡ d
written_unique {number} {Is} {a} {b} {d} one f g = by (ℕ_discrete number 0)
  where
    by : Dec (number ≡ 0) → b ≡ d
    by (yes e) =
        let (w, i, p) = f.done e in
        let (u, j, q) = g.done e in
        p.is ∙ ap (λ (x : List ℕ). x ++ drop (length x) a) (one e w u i j) ∙ sym q.is
    by (no n) = f.unchanged n ∙ sym (g.unchanged n)

no_filled : {number : ℕ} → 1 ≤ number → number ≤ 13 → (number ≡ 0) ⊎ (14 ≤ number) → ⊥
no_filled h l (inl e) = omega arith
no_filled h l (inr k) = omega arith

-- what each way of ending leaves
module _ {number t blank : ℕ} {Value : ℕ → ℕ → Type 0} {a : List ℕ} where
  pub left_same : 1 ≤ number → number ≤ 3 → Left number t blank Value a a
  left_same h l = record { unchanged = λ _ _. refl; blanked = λ k _. absurd (omega arith); filled = λ k. absurd (no_filled h (omega arith) k) }

  pub left_blank : {P : ℕ → ℕ → Type 0} {b d : List ℕ} → 4 ≤ number → number ≤ 13 → Filled t P a b → Filled t (λ c x. x ≡ blank) b d → Left number t blank Value a d
  left_blank h l f g = record { unchanged = λ _ k. absurd (omega arith); blanked = λ _ _. filled_after f g; filled = λ k. absurd (no_filled (omega arith) l k) }

  pub left_filled : {b : List ℕ} → (number ≡ 0) ⊎ (14 ≤ number) → Filled t Value a b → Left number t blank Value a b
  left_filled e f = record { unchanged = λ h l. absurd (no_filled h (omega arith) e); blanked = λ h l. absurd (no_filled (omega arith) l e); filled = λ _. f }

-- a job that refuses writes nothing
module _ {number : ℕ} {Is : List ℕ → Type 0} {a : List ℕ} where
  pub written_nothing : (number ≡ 0 → ⊥) → Written number Is a a
  written_nothing n = record { unchanged = λ _. refl; done = λ e. absurd (n e) }

  pub written_done : {b w : List ℕ} → number ≡ 0 → Front w a b → Is w → Written number Is a b
  written_done {b} {w} e f i = record { unchanged = λ n. absurd (n e); done = λ _. (w, i, f) }
