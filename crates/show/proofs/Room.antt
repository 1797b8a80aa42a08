-- The longest sheet: 46 bytes for the first line, 17 for each couple, 5 for each byte of the plan and 4 for each byte of the list apart
-- from it, with numbers of at most 5 digits.
-- A number has as many digits as its tenth part and one more; a line of the plan has at most 5 bytes for each byte that stores its run,
-- one of the list at most 4.
-- The line of a refusal is short. By induction on the ranks, on the settings and on the runs.
use mathlib.Core.Path.{◌≡◌, refl}
use mathlib.Core.Bool.{Bool, true, false, cond}
use mathlib.Core.List.{List, [], ◌∷◌, map}
use mathlib.Core.Logic.{◌⊎◌, ⊎_elim}
use Prim.Native.Nat.{ℕ, zero, suc, ◌+◌, ◌*◌, ◌/◌, ◌^◌, ◌≤◌, ◌<◌, zero-le, max}
use native.Mathlib.Nat.{pow-succ'}
use native.Mathlib.Omega.{arith}
use lib.Dec.{eqb, ltb}
use lib.ListN.{length, get_or, take, drop, length-append, length-take, length-drop}
use borrow.Author.Tests.{ltb-true, ltb-false, eq-eqb}
use Rattle.std.specs.Prelude.{not, ◌==◌}
use Rattle.std.proofs.lemmas.List.Sums.{count_by-le-length}
use Rattle.basics.specs.Texts.{letters}
use Rattle.machine.specs.Limits.{unmarked}
use Rattle.machine.specs.Plans.{split}
use Rattle.several.specs.Lists.{split_list}
use Rattle.show.specs.Digits.{digits}
use Rattle.show.specs.Sheet.{count_of, marked_in, ranks_in, fields_behind, line, first_line, rank_lines, run_lines, multi_lines, sheet_text, refusal_text}
use Rattle.show.proofs.Digits.{digits_one, digits_more}

-- numbers below m have at most k digits
abbrev Room : ℕ → ℕ → Type 0
Room m k = (n : ℕ) → n < m → length (digits n) ≤ k

room_one : Room 10 1
room_one n h = rw (digits_one n h) (omega arith)

room_more : (m k : ℕ) → 0 < k → Room m k → Room (10 * m) (suc k)
room_more m k p room n h = go (ltb n 10) refl
  where
    go : (t : Bool) → ltb n 10 ≡ t → length (digits n) ≤ suc k
    go true e = rw (digits_one n (ltb-true n 10 e)) (omega arith)
    go false e = rw (digits_more n (ltb-false n 10 e), length-append) (omega (arith, room (n / 10) (omega arith)))

room_up : (k : ℕ) → Room (10 ^ suc k) (suc k)
room_up zero = room_one
room_up (suc k) = rw pow-succ' (room_more (10 ^ suc k) (suc k) (omega arith) (room_up k))

-- every element is a byte
abbrev pub Bytes : List ℕ → Type 0
Bytes [] = Unit {0}
Bytes (x ∷ l) = (x < 256) × Bytes l

bytes_take : (n : ℕ) (l : List ℕ) → Bytes l → Bytes (take n l)
bytes_take zero l h = tt
bytes_take (suc n) [] h = tt
bytes_take (suc n) (x ∷ l) h = (h.0, bytes_take n l h.1)

bytes_drop : (n : ℕ) (l : List ℕ) → Bytes l → Bytes (drop n l)
bytes_drop zero l h = h
bytes_drop (suc n) [] h = tt
bytes_drop (suc n) (x ∷ l) h = bytes_drop n l h.1

settings_room : (l : List ℕ) → Bytes l → length (fields_behind (map digits l)) ≤ 4 * length l + 1
settings_room [] h = omega arith
settings_room (x ∷ l) h = simp length-append (omega (arith, room_up 2 x (omega (arith, h.0)), settings_room l h.1))

runs_room : (f k : ℕ) (bs : List ℕ) → k + length bs < 100000 → Bytes bs → length (run_lines k (split f bs)) ≤ 5 * length bs
runs_room zero k bs h b = omega arith
runs_room (suc f) k [] h b = omega arith
runs_room (suc f) k (low ∷ []) h b = omega arith
runs_room (suc f) k (low ∷ high ∷ bs) h b =
    let n = high * 256 + low in
    let others = runs_room f (suc k) (drop n bs) (omega (arith, length-take n bs, length-drop n bs)) (bytes_drop n bs b.1.1) in
    simp length-append (omega (arith, room_up 4 k (omega arith), settings_room (take n bs) (bytes_take n bs b.1.1), length-take n bs, length-drop n bs))

multi_room : (f : ℕ) (bs : List ℕ) → Bytes bs → length (multi_lines (split_list f bs)) ≤ 4 * length bs
multi_room zero bs h = omega arith
multi_room (suc f) [] h = omega arith
multi_room (suc f) (a ∷ []) h = omega arith
multi_room (suc f) (a ∷ b ∷ []) h = omega arith
multi_room (suc f) (a ∷ b ∷ low ∷ []) h = omega arith
multi_room (suc f) (a ∷ b ∷ low ∷ high ∷ bs) (x, (y, (z, (w, h)))) =
    let n = high * 256 + low in
    let others = multi_room f (drop n bs) (bytes_drop n bs h) in
    simp length-append (omega (arith, room_up 4 (b * 256 + a) (omega arith), settings_room (take n bs) (bytes_take n bs h), length-take n bs, length-drop n bs))

ranks_room : (count : ℕ → ℕ) (n : ℕ) → n < 100000 → ((r : ℕ) → count r < 100000) → length (rank_lines count n) ≤ 17 * n
ranks_room count zero h c = omega arith
ranks_room count (suc n) h c =
    simp length-append (omega (arith, room_up 4 n (omega arith), room_up 4 (count n) (c n), ranks_room count n (omega arith) c))

first_room : (inputs states couples marked : ℕ) → inputs < 10 → states < 100 → couples < 100000 → marked < 100000 → length (first_line inputs states couples marked) ≤ 46
unfolding first_line
first_room inputs states couples marked i s c m =
    simp length-append (omega (arith, room_one inputs i, room_up 1 states s, room_up 4 couples c, room_up 4 marked m))

-- every sheet has room in so many bytes, where no rank is as high as the number of couples
pub sheet_room : (inputs states : ℕ) (ranks plan list : List ℕ) → inputs < 10 → states < 100 → length ranks < 100000 → ranks_in ranks ≤ length ranks
    → length plan < 99999 → Bytes plan → Bytes list → length (sheet_text inputs states ranks plan list) ≤ 46 + 17 * length ranks + 5 * length plan + 4 * length list
sheet_room inputs states ranks plan list i s c r p b d =
    let first = first_room inputs states (length ranks) (marked_in ranks) i s c (omega (arith, count_by-le-length (λ x. not (x == unmarked)) ranks)) in
    let middle = ranks_room (λ k. count_of k ranks) (ranks_in ranks) (omega arith) (λ k. omega (arith, count_by-le-length (λ x. x == k) ranks)) in
    let runs = runs_room (length plan) 1 plan (omega arith) b in
    simp length-append (omega (arith, multi_room (length list) list d))

-- no rank is as high as t, where none of a marked couple is
pub ranks_low : (t : ℕ) (ranks : List ℕ) → ((c : ℕ) → c < length ranks → (get_or ranks c 0 < t) ⊎ (get_or ranks c 0 ≡ unmarked)) → ranks_in ranks ≤ t
ranks_low t [] h = zero-le
ranks_low t (x ∷ ranks) h =
    let rest = ranks_low t ranks (λ c l. h (suc c) (omega arith)) in
    ⊎_elim (λ l. below (eqb x unmarked) rest l) (λ e. rw (eq-eqb x unmarked e) rest) (h 0 (omega arith))
  where
    below : (b : Bool) → ranks_in ranks ≤ t → x < t → cond b (ranks_in ranks) (max (suc x) (ranks_in ranks)) ≤ t
    below true rest l = rest
    below false rest l = omega arith

-- the line of a refusal is short: each of its numbers has at most 20 digits
pub refusal_room : (number place character : ℕ) → number < 10 ^ 20 → place < 10 ^ 20 → character < 10 ^ 20 → length (refusal_text number place character) ≤ 71
refusal_room number place character n p c = by (eqb number 5)
  where
    by : (five : Bool) → length (line (letters "REFUSED") (digits number ∷ digits place ∷ cond five (digits character ∷ []) [])) ≤ 71
    by true = simp length-append (omega (arith, room_up 19 number n, room_up 19 place p, room_up 19 character c))
    by false = simp length-append (omega (arith, room_up 19 number n, room_up 19 place p))
