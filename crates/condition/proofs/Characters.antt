-- The character of a text is one, at least 1 and at most the length plus one, and where reading stops tells it. The front of what can be
-- continued can be continued too, by the rest of it: so where all of a text can be continued, no number of its characters cannot.
use Prim.Native.Nat.{ℕ, suc, ◌+◌, ◌≤◌, ◌<◌}
use Prim.Native.Char.{code}
use mathlib.Core.Path.{◌≡◌, refl, sym, ap, subst, ◌∙◌}
use mathlib.Core.List.{List, [], ◌∷◌, ◌++◌, append_assoc, append-nil}
use native.Mathlib.Numerals.{add-one}
use native.Mathlib.Nat.{le_refl}
use native.Mathlib.Decide.{dec_lt}
use native.Mathlib.Omega.{arith}
use lib.ListN.{length, take, drop, take-append-drop}
use lib.Seq.{take_all, take-append-le, take-take, length-take-le}
use Rattle.verdict.proofs.Tests.{least_unique}
use Rattle.condition.specs.Grammar.{one, off, text, opened, Below}
use Rattle.condition.specs.Condition.{Reads, CanBeContinued, CharacterOf, cannot, early}

module _ {n : ℕ} where
  -- the front of what can be continued, what reads, and no characters at all can be continued
  front_on : {w : List ℕ} (i : ℕ) → CanBeContinued n w → CanBeContinued n (take i w)
  front_on {w} i x = record {
    behind = drop i w ++ x.behind;
    reads = subst (Reads n) (ap (◌++ x.behind) (sym (take-append-drop i w)) ∙ append_assoc (take i w) (drop i w) x.behind) x.reads;
  }

  pub read_on : {w : List ℕ} → Reads n w → CanBeContinued n w
  read_on {w} x = record { behind = []; reads = subst (Reads n) (sym (append-nil w)) x }

  nothing_on : CanBeContinued n []
  unfolding text opened Below
  nothing_on = record { behind = code "0" ∷ []; reads = record { tree = one (one off); spelt = refl; nested = omega arith; known = tt } }

module _ {n : ℕ} {w : List ℕ} where
  pub character_unread : {k : ℕ} → CharacterOf n w k → Reads n w → ⊥
  character_unread (cannot {k} x) r = x.here (front_on k (read_on r))
  character_unread (early x none) r = none r

  pub character_only : {j k : ℕ} → CharacterOf n w j → CharacterOf n w k → j ≡ k
  character_only (cannot x) (cannot y) = least_unique x y
  character_only (cannot {k} x) (early y none) = absurd (x.here (front_on k y))
  character_only (early x none) (cannot {k} y) = absurd (y.here (front_on k x))
  character_only (early x none) (early y none') = refl

  pub character_some : {k : ℕ} → CharacterOf n w k → 1 ≤ k
  character_some (cannot {k} x) =
      let some : ¬ (k ≡ 0) = λ e. x.here (subst (λ (i : ℕ). CanBeContinued n (take i w)) (sym e) nothing_on) in
      omega arith
  character_some (early x none) = omega arith

  pub character_upto : {k : ℕ} → CharacterOf n w k → k ≤ length w + 1
  character_upto (cannot {k} x) =
      let few : ¬ (length w < k) = λ h.
      x.first (length w) h (λ y. x.here (subst (CanBeContinued n) (take_all (length w) w (le_refl _) ∙ sym (take_all k w (omega arith))) y)) in
      omega arith
  character_upto (early x none) = le_refl _

  -- m characters can be continued, and no text with one more of them, or with their end, reads
  pub stops : {m : ℕ} → m ≤ length w → CanBeContinued n (take m w) → ((w' : List ℕ) → take (suc m) w' ≡ take (suc m) w → Reads n w' → ⊥) → CharacterOf n w (m + 1)
  stops {m} h alive dead = by (dec_lt m (length w))
    where
      dead_on : m < length w → CanBeContinued n (take (suc m) w) → ⊥
      dead_on l x =
          let long : suc m ≤ length (take (suc m) w) = omega (arith, length-take-le (suc m) w l) in
          dead (take (suc m) w ++ x.behind) (take-append-le (suc m) (take (suc m) w) x.behind long ∙ take-take (suc m) (suc m) w (le_refl _)) x.reads

      by : Dec (m < length w) → CharacterOf n w (m + 1)
      by (yes l) = rw add-one (cannot {k = suc m} (record {
        here = dead_on l;
        first = λ i k none. none (subst (CanBeContinued n) (take-take i m w (omega arith)) (front_on i alive));
      }))
      by (no l) =
          let e : length w ≡ m = omega arith in
          subst (λ (i : ℕ). CharacterOf n w (i + 1)) e (early (subst (CanBeContinued n) (take_all m w (omega arith)) alive) (dead w refl))
