-- What is written at the front of a lent buffer, and then at the front of its rest, stands there one behind the other: by the laws of
-- take and drop.
use mathlib.Core.Path.{◌≡◌, refl, sym, ap, ap₂, subst, ◌∙◌}
use mathlib.Core.List.{List, [], ◌++◌, append_assoc, append-nil}
use Prim.Native.Nat.{ℕ, ◌+◌, ◌-◌, ◌≤◌, ◌<◌}
use native.Mathlib.Omega.{arith}
use Rattle.std.proofs.lemmas.List.{take_rest}
use lib.ListN.{length, drop, take, length-append, length-drop}
use lib.Seq.{drop-drop, drop-length, take_at, drop_at}
use borrow.Rule.Slice.PartMut.{Post-is}
use Rattle.verdict.specs.Buffers.{Front}
use Rattle.plan.specs.inner.Writing.{Put, Ends}

-- the length of the rest that is lent
pub length_rest : (l : List ℕ) (a : ℕ) → length (take (length l - a) (drop a l)) ≡ length l - a
length_rest l a = ap length (take_rest l a) ∙ length-drop a l

-- the rest of l from a on was lent and came back as w and what stood behind it: so did l
rest_back : (l : List ℕ) (a n : ℕ) (w m : List ℕ) → a ≤ length l → m ≡ w ++ drop n (take (length l - a) (drop a l))
    → take a l ++ (m ++ drop (length l - a) (drop a l)) ≡ take a l ++ (w ++ drop (a + n) l)
rest_back l a n w m h e =
    rw (e, take_rest l a, drop-drop n a l, Post-is a (length l) l h, drop-length l, append-nil)

-- that is the front
pub put_front : {w : List ℕ} {n : ℕ} {a b : List ℕ} → Put w n a b → Front w a b
put_front {w} {n} {a} {b} p = record { is = subst (λ (k : ℕ). b ≡ w ++ drop k a) p.count p.is }

-- the first n elements were lent, and came back as w
pub front_of : {w x a : List ℕ} {n : ℕ} → x ≡ w → length w ≡ n → Front w a (x ++ drop n a)
front_of {w} {x} {a} e l = record { is = rw (e, ← l) refl }

-- what is written, or would be, has n elements
module _ {w a : List ℕ} {n : ℕ} (e : n ≡ length w) where
  pub ends_short : length a < n → Ends w a (record { number = 16; place = n }) a
  ends_short l = rw e (Ends.short (rw (← e) l))

  pub ends_front : {b : List ℕ} → n ≤ length a → Front w a b → Ends w a (record { number = 0; place = n }) b
  ends_front l f = rw e (Ends.fits (rw (← e) l) f)

-- nothing is written yet
pub put_none : {a : List ℕ} → Put [] 0 a a
put_none = record { count = refl; is = refl }

-- what was written fits
pub put_reach : {w : List ℕ} {n : ℕ} {a b : List ℕ} → Put w n a b → n ≤ length b
put_reach {w} {n} {a} {b} p = omega (arith, p.count, ap length p.is ∙ length-append w (drop n a))

-- the rest of b is lent, and x written there: then w and x are written one behind the other
pub put_more : {w x : List ℕ} {n k : ℕ} {a b m : List ℕ} → Put w n a b → Put x k (take (length b - n) (drop n b)) m
    → Put (w ++ x) (n + k) a (take n b ++ (m ++ drop (length b - n) (drop n b)))
put_more {w} {x} {n} {k} {a} {b} {m} p q =
    let front : take n b ≡ w = rw p.is (take_at w (drop n a) n (sym p.count)) in
    let behind : drop n b ≡ drop n a = rw p.is (drop_at w (drop n a) n (sym p.count)) in
    let back : drop (n + k) b ≡ drop (n + k) a = sym (drop-drop k n b) ∙ ap (drop k) behind ∙ drop-drop k n a in
    record {
      count = rw length-append (omega (arith, p.count, q.count));
      is = rest_back b n k x m (put_reach p) q.is ∙ ap₂ (λ (u v : List ℕ). u ++ (x ++ v)) front back ∙ sym (append_assoc w x (drop (n + k) a));
    }
