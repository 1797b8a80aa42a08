-- Pieces written one behind the other: a byte, two pieces, one that is cut, and a text of which a part is written.
use mathlib.Core.Path.{◌≡◌, refl, sym, ap, subst, ◌∙◌}
use mathlib.Core.List.{List, [], ◌∷◌, ◌++◌, append_assoc}
use Prim.Native.Nat.{ℕ, ◌+◌, ◌≤◌, ◌<◌}
use native.Mathlib.Omega.{arith}
use lib.ListN.{length, set, length-append}
use Rattle.std.specs.Prelude.{Result, Ok, Err, IsErr}
use Rattle.show.specs.declared.Short.{Short}
use Rattle.show.specs.declared.text.Text.{Text}
use Rattle.show.specs.Written.{Writes}
use Rattle.show.specs.inner.Steps.{Cut, After, Adds}
use Rattle.show.proofs.Over.{length_over, over_full, over_byte, written_fits, written_short}

-- a byte that finds no room
pub adds_past : (b : ℕ) (s : Text) → length s.out.now ≤ s.end → Adds (b ∷ []) s (Err (record {})) s
adds_past b s h =
    record {
      same_reference = refl;
      behind = λ text lent w.
          let full : length lent ≤ length text = omega (arith, w.end, ap length w.bytes ∙ length_over text lent) in
          record { short = simp length-append (omega arith); bytes = w.bytes ∙ sym (over_full text (b ∷ []) lent full) };
    }

-- a byte that fits
pub adds_byte : (b : ℕ) (s t : Text) → s.end < length s.out.now → t.end ≡ s.end + 1 → t.out.now ≡ set s.out.now s.end b → t.out.ghost_name ≡ s.out.ghost_name
    → Adds (b ∷ []) s (Ok tt) t
adds_byte b s t h e f same =
    record {
      same_reference = same;
      behind = λ text lent w.
          let all : length s.out.now ≡ length lent = ap length w.bytes ∙ length_over text lent in
          record {
            end = simp length-append (omega (arith, w.end));
            room = simp length-append (omega (arith, w.end));
            bytes = f ∙ rw (w.bytes, w.end) (sym (over_byte text b lent (omega (arith, w.end))));
          };
    }

-- two pieces, one behind the other
pub adds_then : {x y : List ℕ} {s t u : Text} {done : Unit {0}} {r : Result (Unit {0}) Short} → Adds x s (Ok done) t → Adds y t r u → Adds (x ++ y) s r u
adds_then {x} p q =
    record {
      same_reference = q.same_reference ∙ p.same_reference;
      behind = λ text lent w. rw append_assoc at (q.behind (text ++ x) lent (p.behind text lent w));
    }

-- a piece that is cut, whatever was to come behind it
pub adds_cut : {x : List ℕ} (y : List ℕ) {s t : Text} {e : Short} {r : Result (Unit {0}) Short} → Adds x s (Err e) t → IsErr r → Adds (x ++ y) s r t
adds_cut {x} y {t = t} {r = r} p short =
    record { same_reference = p.same_reference; behind = λ text lent w. by r short (rw append_assoc at (more (text ++ x) lent (p.behind text lent w))) }
  where
    more : (text lent : List ℕ) → Cut text lent t → Cut (text ++ y) lent t
    more text lent c = record { short = simp length-append (omega (arith, c.short)); bytes = c.bytes ∙ sym (over_full text y lent (omega (arith, c.short))) }

    by : {text lent : List ℕ} (r : Result (Unit {0}) Short) → IsErr r → Cut text lent t → After text lent r t
    by (Ok done) short c = absurd (cc)
    by (Err e) short c = c

-- a text of which the rest is still to be written
pub record Left (text rest : List ℕ) (s t : Text) : Type 0 where
  pub done : List ℕ
  pub joined : done ++ rest ≡ text
  pub adds : Adds done s (Ok tt) t

pub left_less : {text x rest : List ℕ} {s t u : Text} → Left text (x ++ rest) s t → Adds x t (Ok tt) u → Left text rest s u
left_less {text} {x} {rest} p q = record { done = p.done ++ x; joined = append_assoc p.done x rest ∙ p.joined; adds = adds_then p.adds q }

-- its next piece, the last one or one that is cut
pub left_last : {text x : List ℕ} {s t u : Text} {r : Result (Unit {0}) Short} → Left text x s t → Adds x t r u → Adds text s r u
left_last {text} {x} {s} {t} {u} {r} p q = subst (λ (l : List ℕ). Adds l s r u) p.joined (adds_then p.adds q)

pub left_cut : {text x : List ℕ} (rest : List ℕ) {s t u : Text} {e : Short} {r : Result (Unit {0}) Short} → Left text (x ++ rest) s t → Adds x t (Err e) u → IsErr r → Adds text s r u
left_cut rest p q short = left_last p (adds_cut rest q short)

-- the whole text, written from the start; b is what the buffer ends as
pub writes_all : {text b : List ℕ} {s t : Text} → s.end ≡ 0 → Adds text s (Ok tt) t → b ≡ t.out.now → Writes text (Ok t.end) s.out.now b
writes_all {text} {s = s} e p f =
    let w = p.behind [] s.out.now (record { end = e; room = omega arith; bytes = refl }) in
    record { answered = ap Ok w.end ∙ sym (written_fits text s.out.now w.room); bytes = f ∙ w.bytes }

pub writes_cut : {text b : List ℕ} {s t : Text} {e : Short} {r : Result ℕ Short} → s.end ≡ 0 → Adds text s (Err e) t → IsErr r → b ≡ t.out.now → Writes text r s.out.now b
writes_cut {text} {s = s} {r = r} e p short f =
    let w = p.behind [] s.out.now (record { end = e; room = omega arith; bytes = refl }) in
    record { answered = by r short ∙ sym (written_short text s.out.now w.short); bytes = f ∙ w.bytes }
  where
    by : (r : Result ℕ Short) → IsErr r → r ≡ Err (record {})
    by (Ok n) short = absurd (cc)
    by (Err e) short = refl
