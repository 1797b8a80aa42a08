-- The sets that functions are lent and fill: an array by value holds words, a bit set in it leaves words, and a set filled setting by
-- setting is that of what was asked, none at first, one more where it holds.
use mathlib.Core.Path.{◌≡◌, refl, sym, ap, subst, ◌∙◌}
use mathlib.Core.Logic.{⊎_elim}
use mathlib.Core.Bool.{Bool, ◌||◌}
use mathlib.Core.List.{List, [], ◌∷◌}
use Prim.Native.Nat.{ℕ, zero, suc, ◌+◌, ◌*◌, ◌^◌, ◌≤◌, ◌<◌}
use native.Mathlib.Omega.{arith}
use mir.Syntax.{w64}
use mir.Val.{Val}
use denote.Laws.{Is}
use denote.Shadow.{shadow}
use denote.Plain.{UInt}
use denote.Array.{Array, each}
use lib.ListN.{get_or, set, replicate, length-set, length-replicate}
use lib.Seq.{get_or-set_same, get_or-set_other}
use lib.Dec.{eqb, lit<}
use lib.Bits.{bit_or, or_lt}
use borrow.Author.Tests.{eq-eqb, ne_eqb}
use Rattle.verdict.specs.Checks.{Decides}
use Rattle.verdict.proofs.Tests.{it_holds, it_fails, decides_map, decides_or, decides_equal, decides_below, decides_unique}
use Rattle.sets.specs.Sets.{member, Words, SetOf}
use Rattle.sets.proofs.Members.{zeros, member_none, member_beyond, set_only}

each_fits : (xs : List ℕ) (us : List Val) → shadow (each ℕ (UInt w64).own_val xs us) → (i : ℕ) → get_or xs i 0 < 2 ^ 64
each_fits [] [] s i = lit< tt
each_fits [] (u ∷ us) s i = absurd s
each_fits (x ∷ xs) [] s i = absurd s
each_fits (x ∷ xs) (u ∷ us) s zero = s.0.1
each_fits (x ∷ xs) (u ∷ us) s (suc i) = each_fits xs us s.1 i

pub array_words : {n : ℕ} {xs : List ℕ} {vs : List Val} → Is (Array (UInt w64) n) xs vs → Words n xs
array_words {n} {xs} p = record { count = p.1.0.1; small = λ i l. each_fits xs p.0 p.1.1 i }

-- a word with more bits set
pub words_set : {n : ℕ} {s : List ℕ} → Words n s → (j x : ℕ) → j < n → x < 2 ^ 64 → Words n (set s j (bit_or (get_or s j 0) x))
words_set {n} {s} a j x l h = record {
  count = length-set s j _ ∙ a.count;
  small = λ i k. ⊎_elim
      (λ e. rw (e, get_or-set_same s j (bit_or (get_or s j 0) x) 0 (omega (arith, a.count))) (or_lt 64 (get_or s j 0) x (a.small j l) h))
      (λ (e : i ≡ j → ⊥). rw (get_or-set_other s j i (bit_or (get_or s j 0) x) 0 e) (a.small i k))
      (decides_or (decides_equal i j));
}

-- the set of P is one
pub set_of_only : {n m : ℕ} {P : ℕ → Type 0} {a b : List ℕ} → SetOf n m P a → SetOf n m P b → a ≡ b
set_of_only {n} {m} {P} {a} {b} x y = set_only x.array y.array (λ v. ⊎_elim
    (λ l. decides_unique (P v) (member a v) (member b v) (x.each v l) (y.each v l))
    (λ (l : v < m → ⊥). x.beyond v (omega arith) ∙ sym (y.beyond v (omega arith)))
    (decides_or (decides_below v m)))

-- and that of whatever holds at the same settings
pub set_same : {n m : ℕ} {P Q : ℕ → Type 0} {s : List ℕ} → ((v : ℕ) → P v → Q v) → ((v : ℕ) → Q v → P v) → SetOf n m P s → SetOf n m Q s
set_same f g x = record { array = x.array; each = λ v l. decides_map (f v) (g v) (x.each v l); beyond = x.beyond }

module _ {P : ℕ → Type 0} where
  -- of what holds nowhere it is empty
  pub set_none : (n m : ℕ) → ((v : ℕ) → v < m → P v → ⊥) → SetOf n m P (replicate n 0)
  set_none n m none = record {
    array = record { count = length-replicate n 0; small = λ i l. rw (zeros n i) (lit< tt) };
    each = λ v l. subst (Decides (P v)) (sym (member_none n v)) (it_fails (none v l));
    beyond = λ v l. member_none n v;
  }

  module _ {n s : ℕ} {a : List ℕ} (x : SetOf n s P a) where
    pub set_in : {b : List ℕ} → s < 64 * n → P s → Words n b → ((v : ℕ) → v < 64 * n → member b v ≡ eqb v s || member a v) → SetOf n (s + 1) P b
    set_in {b} h p w e = record {
      array = w;
      each = λ v l. ⊎_elim
          (λ q. subst (λ (u : ℕ). Decides (P u) (member b u)) (sym q) (subst (Decides (P s)) (sym (e s h ∙ ap (λ (t : Bool). t || member a s) (eq-eqb s s refl))) (it_holds p)))
          (λ (q : v ≡ s → ⊥). subst (Decides (P v)) (sym (e v (omega arith) ∙ ap (λ (t : Bool). t || member a v) (ne_eqb v s q))) (x.each v (omega arith)))
          (decides_or (decides_equal v s));
      beyond = λ v l. ⊎_elim
          (λ k. e v k ∙ ap (λ (t : Bool). t || member a v) (ne_eqb v s (λ q. omega arith)) ∙ x.beyond v (omega arith))
          (λ (k : v < 64 * n → ⊥). member_beyond b v (omega (arith, w.count)))
          (decides_or (decides_below v (64 * n)));
    }

    -- of more settings it is the same, where nothing more holds
    pub set_wide : (m : ℕ) → s ≤ m → ((v : ℕ) → s ≤ v → v < m → P v → ⊥) → SetOf n m P a
    set_wide m h none = record {
      array = x.array;
      each = λ v l. ⊎_elim
          (λ k. x.each v k)
          (λ (k : v < s → ⊥). let o : s ≤ v = omega arith in subst (Decides (P v)) (sym (x.beyond v o)) (it_fails (none v o l)))
          (decides_or (decides_below v s));
      beyond = λ v l. x.beyond v (omega arith);
    }

    pub set_out : (P s → ⊥) → SetOf n (s + 1) P a
    set_out none = set_wide (s + 1) (omega arith) (λ v h k p. let e : v ≡ s = omega arith in none (subst P e p))
