-- The file with rest conditions has bytes where the file it is written from does: each part does, a length of a rest condition by its
-- limit, and the numbers of the contents since the bodies lie in the file. So of a file that is not refused by 1 to 3.
use mathlib.Core.Bool.{Bool, true, false, cond}
use mathlib.Core.List.{List, [], ◌∷◌, ◌++◌}
use Prim.Native.Char.{code}
use Prim.Native.Nat.{ℕ, zero, suc, ◌+◌, ◌^◌, ◌≤◌, ◌<◌}
use native.Mathlib.Omega.{arith}
use native.Mathlib.Decide.{dec_lt}
use lib.ListN.{get_or, take, drop}
use lib.Dec.{eqb}
use Rattle.verdict.specs.Below.{join_to}
use Rattle.verdict.specs.Checks.{Past}
use Rattle.specification.specs.Limits.{most_bytes}
use Rattle.specification.specs.File.{mark, count_of, entry_at, length_of, start_of, WellFormed}
use Rattle.specification.specs.Records.{sizes_of, record_at, source, text_length, Sized}
use Rattle.specification.specs.Rules.{text_at, text_of}
use Rattle.specification.specs.Reading.{ReadHere}
use Rattle.specification.specs.Rests.{Bytes, summed, negated, conditions_from, rest_text, two_bytes, entry_bytes, state_bytes, with_rests, Fits}
use Rattle.specification.specs.declared.Contents.{Contents}
use Rattle.specification.specs.declared.records.Sizes.{Sizes}
use Rattle.specification.proofs.Entries.{body_within}
use Rattle.specification.proofs.Places.{count_is, offset_is, length_of_lem}
use Rattle.specification.proofs.Shaped.{formed}
use Rattle.specification.proofs.Refusals.{formed_not}

-- ---- lists of bytes, as a record, so that the lists are inferred
record Octets (w : List ℕ) : Type 0 where
  all : Bytes w

bytes_append : (xs ys : List ℕ) → Bytes xs → Bytes ys → Bytes (xs ++ ys)
bytes_append [] ys a b = b
bytes_append (x ∷ xs) ys a b = (a.0, bytes_append xs ys a.1 b)

infixr 20 ◌then◌
◌then◌ : {xs ys : List ℕ} → Octets xs → Octets ys → Octets (xs ++ ys)
◌then◌ {xs} {ys} a b = record { all = bytes_append xs ys a.all b.all }

bytes_take : (n : ℕ) (xs : List ℕ) → Bytes xs → Bytes (take n xs)
bytes_take zero xs a = tt
bytes_take (suc n) [] a = tt
bytes_take (suc n) (x ∷ xs) a = (a.0, bytes_take n xs a.1)

bytes_drop : (n : ℕ) (xs : List ℕ) → Bytes xs → Bytes (drop n xs)
bytes_drop zero xs a = a
bytes_drop (suc n) [] a = tt
bytes_drop (suc n) (x ∷ xs) a = bytes_drop n xs a.1

bytes_at_lem : (xs : List ℕ) (i : ℕ) → Bytes xs → get_or xs i 0 < 2 ^ 8
bytes_at_lem [] i a = omega arith
bytes_at_lem (x ∷ xs) zero a = a.0
bytes_at_lem (x ∷ xs) (suc i) a = bytes_at_lem xs i a.1

one_byte : (n : ℕ) → n < 2 ^ 8 → Octets (n ∷ [])
one_byte n h = record { all = (h, tt) }

two_bytes_lem : (n : ℕ) → n ≤ most_bytes → Octets (two_bytes n)
two_bytes_lem n h = record { all = (omega arith, (omega arith, tt)) }

octets_join : (f : ℕ → List ℕ) (n : ℕ) → ((k : ℕ) → k < n → Octets (f k)) → Octets (join_to f n)
unfolding join_to
octets_join f zero a = record { all = tt }
octets_join f (suc n) a = octets_join f n (λ k h. a k (omega arith)) then a n (omega arith)

-- ---- texts
data Texts : List (List ℕ) → Type 0 where
  none : Texts []
  also : {t : List ℕ} {ts : List (List ℕ)} → Octets t → Texts ts → Texts (t ∷ ts)

texts_append : {ts us : List (List ℕ)} → Texts ts → Texts us → Texts (ts ++ us)
texts_append none b = b
texts_append (also t a) b = also t (texts_append a b)

octets_summed : {t : List ℕ} {ts : List (List ℕ)} → Octets t → Texts ts → Octets (summed t ts)
octets_summed t none = t
octets_summed t (also u us) = t then one_byte (code "+") (omega arith) then octets_summed u us

octets_negated : {ts : List (List ℕ)} → Texts ts → Octets (negated ts)
octets_negated none = one_byte (code "1") (omega arith)
octets_negated (also t ts) = one_byte (code "!") (omega arith) then one_byte (code "(") (omega arith) then octets_summed t ts then one_byte (code ")") (omega arith)

module _ (f : List ℕ) (a : Bytes f) where
  stretch : (n at : ℕ) → Octets (take n (drop at f))
  stretch n at = record { all = bytes_take n (drop at f) (bytes_drop at f a) }

  texts_from : (z : Sizes) (s k : ℕ) → Texts (conditions_from f z s k)
  unfolding conditions_from
  texts_from z s zero = none
  texts_from z s (suc k) = texts_append (texts_from z s k) (by (eqb (source f z (z.states + k)) s))
    where
      by : (b : Bool) → Texts (cond b (text_of f z (z.states + k) ∷ []) [])
      by true = also (stretch (text_length f z (z.states + k)) (text_at f z (z.states + k))) none
      by false = none

  module _ (fit : Fits f) where
    octets_state : (s : ℕ) → s < (sizes_of f).states → Octets (state_bytes f (sizes_of f) s)
    octets_state s h =
        let at = record_at (sizes_of f) s in
        two_bytes_lem _ (omega (arith, bytes_at_lem f at a, bytes_at_lem f (at + 1) a)) then one_byte _ (omega (arith, fit.short s h))

    -- offsets and lengths are at most 65,535, as the bodies lie in the file
    octets_entry : WellFormed f → Sized f → (k : ℕ) → k < count_of f → Octets (entry_bytes f k)
    octets_entry wf sz k h =
        let e = (formed f wf sz fit.few).entries in
        let l : k < count_of (with_rests f) = omega (arith, count_is f) in
        let within = body_within e k l in
        one_byte _ (bytes_at_lem f (entry_at k) a)
        then two_bytes_lem _ (omega (arith, offset_is f k h, e.offset k l, within, fit.few))
        then two_bytes_lem _ (omega (arith, length_of_lem f k h, within, fit.few))

    octets_rests : WellFormed f → Sized f → Octets (with_rests f)
    unfolding with_rests
    octets_rests wf sz =
        let z = sizes_of f in
        let marked : Octets (mark true) = record { all = (omega arith, (omega arith, (omega arith, (omega arith, tt)))) } in
        marked
        then one_byte (count_of f) (bytes_at_lem f 4 a)
        then octets_join (entry_bytes f) (count_of f) (octets_entry wf sz)
        then stretch (length_of f 0) (start_of f 0)
        then octets_join (state_bytes f z) z.states octets_state
        then stretch (length_of f 2) (start_of f 2)
        then octets_join (rest_text f z) z.states (λ s h. octets_negated (texts_from z s z.evolutions))
        then record { all = bytes_drop (start_of f 3) f a }

-- ---- of a file that is read
bytes_stable : (w : List ℕ) → ((Bytes w → ⊥) → ⊥) → Bytes w
bytes_stable [] n = tt
bytes_stable (x ∷ xs) n = (by (dec_lt x (2 ^ 8)), bytes_stable xs (λ m. n (λ b. m b.1)))
  where
    by : Dec (x < 2 ^ 8) → x < 2 ^ 8
    by (yes h) = h
    by (no h) = absurd (n (λ b. h b.0))

pub read_bytes : {f table words : List ℕ} {room : ℕ} {r : Contents} {t w : List ℕ}
    → Bytes f → ReadHere f table words room r t w → Past 3 r.answer.number → Fits f → Bytes (with_rests f)
read_bytes {f} a u past fit = bytes_stable (with_rests f) (λ n. formed_not u past (λ x. n (octets_rests f a fit x.0 x.1).all))
