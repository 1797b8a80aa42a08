-- The digits of a number: those below ten, those from ten on, and that they read as the number, are digits all and none too many.
-- By induction on how many digits are allowed.
use mathlib.Core.Path.{◌≡◌, refl, sym, ap, ◌∙◌}
use mathlib.Core.Bool.{Bool, true, false, cond}
use mathlib.Core.List.{List, [], ◌∷◌, ◌++◌}
use mathlib.Core.Logic.{◌⊎◌, inl, inr, ⊎_elim}
use Prim.Native.Nat.{ℕ, zero, suc, ◌+◌, ◌-◌, ◌*◌, ◌/◌, ◌%◌, ◌≤◌, ◌<◌}
use native.Mathlib.Nat.{eq-or-lt_of_le}
use native.Mathlib.Omega.{arith}
use lib.Dec.{ltb}
use lib.ListN.{length, get_or, length-append, get_or-append}
use lib.Seq.{get_or_at}
use borrow.Author.Tests.{lt-ltb, le-ltb, ltb-true, ltb-false}
use Rattle.show.specs.Digits.{digit, digits_up_to, digits, read_behind, Decimal}

-- more digits allowed than needed make no difference
up_to_same : (k j n : ℕ) → n < k → n < j → digits_up_to k n ≡ digits_up_to j n
unfolding digits_up_to
up_to_same zero j n h g = absurd (omega arith)
up_to_same (suc k) zero n h g = absurd (omega arith)
up_to_same (suc k) (suc j) n h g = go (λ m. up_to_same k j m) (ltb n 10) refl
  where
    go : ((m : ℕ) → m < k → m < j → digits_up_to k m ≡ digits_up_to j m) → (t : Bool) → ltb n 10 ≡ t
        → cond t (digit n ∷ []) (digits_up_to k (n / 10) ++ (digit (n % 10) ∷ [])) ≡ cond t (digit n ∷ []) (digits_up_to j (n / 10) ++ (digit (n % 10) ∷ []))
    go same true e = refl
    go same false e = ap (λ (l : List ℕ). l ++ (digit (n % 10) ∷ [])) (same (n / 10) (omega (arith, ltb-false n 10 e)) (omega (arith, ltb-false n 10 e)))

pub digits_one : (n : ℕ) → n < 10 → digits n ≡ digit n ∷ []
unfolding digits digits_up_to
digits_one n h = rw (lt-ltb n 10 h)

pub digits_more : (n : ℕ) → 10 ≤ n → digits n ≡ digits (n / 10) ++ (digit (n % 10) ∷ [])
unfolding digits digits_up_to
digits_more n h = rw (le-ltb n 10 h) (ap (λ (l : List ℕ). l ++ (digit (n % 10) ∷ [])) (up_to_same n (suc (n / 10)) (n / 10) (omega arith) (omega arith)))

-- one digit more
read_more : (m : ℕ) (text : List ℕ) (x : ℕ) → read_behind m (text ++ (x ∷ [])) ≡ read_behind m text * 10 + (x - 48)
unfolding read_behind
read_more m [] x = refl
read_more m (y ∷ text) x = read_more (m * 10 + (y - 48)) text x

-- an element of a list with one more at its end
each_more : (text : List ℕ) (x i : ℕ) → i < length (text ++ (x ∷ [])) → ((i < length text) × (get_or (text ++ (x ∷ [])) i 0 ≡ get_or text i 0)) ⊎ (get_or (text ++ (x ∷ [])) i 0 ≡ x)
each_more text x i h =
    ⊎_elim
    (λ (e : i ≡ length text). inr (get_or_at text x [] 0 i (sym e)))
    (λ (l : i < length text). inl (l, get_or-append text (x ∷ []) 0 i l))
    (eq-or-lt_of_le (omega (arith, simp length-append at h)))

one : (n : ℕ) → n < 10 → Decimal n (digit n ∷ [])
unfolding read_behind
one n h =
    record {
      reads = omega arith;
      each = λ i l. let e : i ≡ 0 = omega arith in rw e (omega arith);
      some = omega arith;
      first = λ e. omega arith;
    }

more : (n : ℕ) (text : List ℕ) → 10 ≤ n → Decimal (n / 10) text → Decimal n (text ++ (digit (n % 10) ∷ []))
more n text h d =
    let x = digit (n % 10) in
    record {
      reads = read_more 0 text x ∙ rw d.reads (omega arith);
      each = λ i l.
          ⊎_elim
          (λ (e : (i < length text) × (get_or (text ++ (x ∷ [])) i 0 ≡ get_or text i 0)). rw e.1 (d.each i e.0))
          (λ (e : get_or (text ++ (x ∷ [])) i 0 ≡ x). rw e (omega arith))
          (each_more text x i l);
      some = simp length-append (omega arith);
      first = λ e. absurd (omega (arith, d.first (sym (get_or-append text (x ∷ []) 0 0 d.some) ∙ e)));
    }

decimal_up_to : (k n : ℕ) → n < k → Decimal n (digits n)
decimal_up_to zero n h = absurd (omega arith)
decimal_up_to (suc k) n h = go (λ m. decimal_up_to k m) (ltb n 10) refl
  where
    go : ((m : ℕ) → m < k → Decimal m (digits m)) → (t : Bool) → ltb n 10 ≡ t → Decimal n (digits n)
    go shorter true e = let l = ltb-true n 10 e in rw (digits_one n l) (one n l)
    go shorter false e = let l = ltb-false n 10 e in rw (digits_more n l) (more n (digits (n / 10)) l (shorter (n / 10) (omega arith)))

-- the digits of a number
pub decimal : (n : ℕ) → Decimal n (digits n)
decimal n = decimal_up_to (suc n) n (omega arith)
