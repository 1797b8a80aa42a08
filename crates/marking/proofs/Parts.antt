-- The first k elements of a buffer, lent on: what is left in the part is left in the whole buffer, element by element, since the others
-- stand behind it as they were.
use mathlib.Core.Path.{◌≡◌, sym, ap, subst, ◌∙◌}
use mathlib.Core.List.{List, ◌++◌}
use Prim.Native.Nat.{ℕ, ◌+◌, ◌-◌, ◌≤◌}
use native.Mathlib.Omega.{arith}
use lib.ListN.{length, get_or, take, drop, length-append, length-take, length-drop, take-append-drop, get_or-append}
use lib.Seq.{get_or-append-add, get_or-drop}
use Rattle.verdict.specs.Buffers.{Filled, Left}

-- the part and what stands behind it
module _ {t : ℕ} (k : ℕ) (a : List ℕ) (room : k ≤ length a) (all : k ≡ t) where
  filled_part : {Value : ℕ → ℕ → Type 0} {b : List ℕ} → Filled t Value (take k a) b → Filled t Value a (b ++ drop k a)
  filled_part {Value} {b} f =
      let l : length b ≡ t = omega (arith, f.same_length, length-take k a) in
      record {
        same_length = omega (arith, length-append b (drop k a), length-drop k a);
        needed = λ c h. subst (Value c) (sym (get_or-append b (drop k a) 0 c (omega arith))) (f.needed c h);
        beyond = λ c h.
            let e : c ≡ length b + (c - t) = omega arith in
            let g : k + (c - t) ≡ c = omega arith in
            ap (λ (i : ℕ). get_or (b ++ drop k a) i 0) e ∙ get_or-append-add b (drop k a) (c - t) 0 ∙ get_or-drop k a (c - t) 0 ∙ ap (λ (i : ℕ). get_or a i 0) g;
      }

  pub left_part : {number blank : ℕ} {Value : ℕ → ℕ → Type 0} {b : List ℕ} → Left number t blank Value (take k a) b → Left number t blank Value a (b ++ drop k a)
  left_part x = record {
    unchanged = λ h l. ap (λ (y : List ℕ). y ++ drop k a) (x.unchanged h l) ∙ take-append-drop k a;
    blanked = λ h l. filled_part (x.blanked h l);
    filled = λ h. filled_part (x.filled h);
  }
