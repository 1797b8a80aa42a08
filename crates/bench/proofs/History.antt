-- From a fresh log, any list of updates leaves the log of its history. The argument: `log_of` is the log that accepted readings make; an accepted update of it is that of one reading more, and so
-- sound if it was, and a refused one is itself.
use Prim.Native.Nat.{ℕ, zero, suc, ◌+◌, ◌≤◌, ◌<◌, min}
use native.Mathlib.Omega.{arith}
use native.Mathlib.Nat.{add-zero}
use native.Mathlib.Numerals.{add-one}
use mathlib.Core.Path.{◌≡◌, refl, sym, subst, ◌∙◌}
use mathlib.Core.Bool.{Bool, true, false, cond}
use mathlib.Core.List.{List, [], ◌∷◌, ◌++◌, append-nil}
use lib.Dec.{ltb, eqb}
use lib.ListN.{length, take, drop, set, length-append, length-take, length-set}
use lib.Seq.{take_all, take-append-le, drop-cons, set-append_seam, append_snoc}
use borrow.Author.Tests.{ltb-true, ltb-false, lt-ltb, le-ltb, eq-eqb, ne_eqb}
use Rattle.verdict.specs.Below.{every, sum_to}
use Rattle.bench.specs.declared.Reading.{Reading}
use Rattle.bench.specs.declared.Log.{Log}
use Rattle.bench.specs.Readings.{differs, those}
use Rattle.bench.specs.Log.{most_entries, most_readings, stores, sound, refuses, equal, stored, full, refused, noted, update_of}
use Rattle.bench.specs.History.{fresh_log, after, accepted, Fits, AllFit, first_of, History}
use Rattle.bench.proofs.Differing.{those_snoc, counts_of, counts_none, counts_snoc}
use Rattle.bench.proofs.Soundness.{refused_log, noted_log, sound_kept}

-- ---- the log that n accepted readings make, of which ds differ, with these counts
abbrev log_at : ℕ → List Reading → List ℕ → Log
log_at n ds counts = record {
  readings = n;
  differing = length ds;
  kept = length (take most_entries ds);
  entries = take most_entries ds ++ drop (length (take most_entries ds)) fresh_log.entries;
  outputs = counts;
}

abbrev log_of : List Reading → Log
log_of rs = log_at (length rs) (those differs rs) (counts_of rs)

fresh_is : log_of [] ≡ fresh_log
fresh_is = rw counts_none

-- one entry more is stored behind the entries that are there
stored_behind : (zs es : List Reading) (e d : Reading) → length es < length zs → set (es ++ drop (length es) zs) (length es) e ≡ (es ++ e ∷ []) ++ drop (length (es ++ e ∷ [])) zs
stored_behind zs es e d h = rw (drop-cons zs (length es) d, set-append_seam, append_snoc, length-append, add-one)

-- one reading more is noted
grows : (n : ℕ) (ds : List Reading) (counts : List ℕ) (r : Reading) (s k : Bool) → differs r ≡ s → ltb (length (take most_entries ds)) most_entries ≡ k
    → noted (log_at n ds counts) r ≡ log_at (n + 1) (ds ++ cond (differs r) (r ∷ []) []) (noted (log_at n ds counts) r).outputs
grows n ds counts r false k es ek = simp (es, append-nil, add-zero)
grows n ds counts r true false es ek =
    let full : most_entries ≤ length ds = omega (arith, simp length-take at (ltb-false (length (take most_entries ds)) most_entries ek)) in
    simp (es, ek, add-zero) (rw (take-append-le most_entries ds (r ∷ []) full, length-append))
grows n ds counts r true true es ek =
    let some : length ds < most_entries = omega (arith, length-take most_entries ds, ltb-true (length (take most_entries ds)) most_entries ek) in
    let more : length (ds ++ r ∷ []) ≤ most_entries = omega (arith, length-append ds (r ∷ [])) in
    simp (es, ek)
    (rw (take_all most_entries ds (omega arith), take_all most_entries (ds ++ r ∷ []) more, stored_behind fresh_log.entries ds r r some)
    (simp length-append))

grown : (rs : List Reading) (r : Reading) → noted (log_of rs) r ≡ log_of (rs ++ r ∷ [])
grown rs r =
    rw (length-append rs (r ∷ []), those_snoc differs rs r, ← counts_snoc rs r)
    (grows (length rs) (those differs rs) (counts_of rs) r (differs r) (ltb (length (first_of rs)) most_entries) refl refl)

-- ---- soundness, and the 32 entries of a log, are kept
abbrev pub Whole : Log → Type 0
Whole l = (length l.entries ≡ most_entries) × (sound l ≡ true)

noted_long : (l : Log) (r : Reading) (t : Bool) → length (cond t (set l.entries l.kept r) l.entries) ≡ length l.entries
noted_long l r true = length-set l.entries l.kept r
noted_long l r false = refl

long_by : (l : Log) (r : Reading) (t : Bool) → refuses l ≡ t → length (update_of l r).log.entries ≡ length l.entries
long_by l r true t = rw (refused_log l r t)
long_by l r false t = rw (noted_log l r t) (noted_long l r (stores l r))

whole_kept : (l : Log) (r : Reading) → Fits r → Whole l → Whole (update_of l r).log
whole_kept l r w h = (long_by l r (refuses l) refl ∙ h.0, sound_kept l r h.0 w h.1)

-- by any updates
pub whole_after : (rs : List Reading) (l : Log) → AllFit rs → Whole l → Whole (after l rs)
whole_after [] l w h = h
whole_after (r ∷ rs) l w h = whole_after rs (update_of l r).log w.1 (whole_kept l r w.0 h)

whole_fresh : Whole fresh_log
unfolding every sum_to
whole_fresh = (refl, refl)

whole_none : Whole (log_of [])
whole_none = subst Whole (sym fresh_is) whole_fresh

-- a sound one is refused exactly where the readings are at their most
refuses_log_of : (rs : List Reading) → Whole (log_of rs) → refuses (log_of rs) ≡ eqb (length rs) most_readings
refuses_log_of rs h = rw h.1

-- ---- the log after more updates, by whether the next one is refused: s is the log after it
after_by : (rs : List Reading) (r : Reading) (more : List Reading) → ((rs' : List Reading) → after (log_of rs') more ≡ log_of (rs' ++ accepted (log_of rs') more)) → (t : Bool) → refuses (log_of rs) ≡ t
    → (s : Log) → (update_of (log_of rs) r).log ≡ s → after s more ≡ log_of (rs ++ cond t (accepted s more) (r ∷ accepted s more))
after_by rs r more ih true t s e = let p : s ≡ log_of rs = sym e ∙ refused_log (log_of rs) r t in rw p (ih rs)
after_by rs r more ih false t s e =
    let p : s ≡ log_of (rs ++ r ∷ []) = sym e ∙ noted_log (log_of rs) r t ∙ grown rs r in
    rw (← append_snoc rs r (accepted s more), p) (ih (rs ++ r ∷ []))

after_log_of : (more rs : List Reading) → after (log_of rs) more ≡ log_of (rs ++ accepted (log_of rs) more)
after_log_of [] rs = rw append-nil
after_log_of (r ∷ more) rs = after_by rs r more (after_log_of more) (refuses (log_of rs)) refl (update_of (log_of rs) r).log refl

-- n updates are accepted before the readings are at their most, and none after that
accepted_log_of : (more rs : List Reading) (n : ℕ) → AllFit more → Whole (log_of rs) → n + length rs ≡ most_readings → accepted (log_of rs) more ≡ take n more
accepted_log_of [] rs zero w h e = refl
accepted_log_of [] rs (suc n) w h e = refl
accepted_log_of (r ∷ more) rs zero w h e =
    let t : refuses (log_of rs) ≡ true = refuses_log_of rs h ∙ eq-eqb (length rs) most_readings (omega arith) in
    rw (t, refused_log (log_of rs) r t) (accepted_log_of more rs zero w.1 h e)
accepted_log_of (r ∷ more) rs (suc n) w h e =
    let t : refuses (log_of rs) ≡ false = refuses_log_of rs h ∙ ne_eqb (length rs) most_readings (λ z. omega arith) in
    let p : (update_of (log_of rs) r).log ≡ log_of (rs ++ r ∷ []) = noted_log (log_of rs) r t ∙ grown rs r in
    rw (t, p, accepted_log_of more (rs ++ r ∷ []) n w.1 (subst Whole p (whole_kept (log_of rs) r w.0 h)) (omega (arith, length-append rs (r ∷ []))))

-- ---- what the next reading answers
number_by : (l : Log) (r : Reading) (t : Bool) → refuses l ≡ t → (update_of l r).number ≡ cond t 18 0
unfolding update_of
number_by l r true t = simp t
number_by l r false t = simp t

few : (n : ℕ) (t : Bool) → ltb n most_entries ≡ t → ltb (min most_entries n) most_entries ≡ t
few n true e = lt-ltb (min most_entries n) most_entries (omega (arith, ltb-true n most_entries e))
few n false e = le-ltb (min most_entries n) most_entries (omega (arith, ltb-false n most_entries e))

room : (rs : List Reading) → ltb (length (first_of rs)) most_entries ≡ ltb (length (those differs rs)) most_entries
room rs = rw (length-take most_entries (those differs rs)) (few (length (those differs rs)) (ltb (length (those differs rs)) most_entries) refl)

kind_by : (rs : List Reading) (r : Reading) (t d : Bool) → refuses (log_of rs) ≡ t → differs r ≡ d
    → (update_of (log_of rs) r).kind ≡ cond t refused (cond d (cond (ltb (length (those differs rs)) most_entries) stored full) equal)
unfolding update_of
kind_by rs r true d t e = simp t
kind_by rs r false true t e = simp (t, e) (rw (room rs))
kind_by rs r false false t e = simp (t, e)

-- ---- the theorem
logged : (updates rs : List Reading) → rs ≡ take most_readings updates → Whole (log_of rs) → History updates rs (log_of rs)
logged updates rs e h = record {
  first = e;
  readings = refl;
  differing = refl;
  kept = refl;
  entries = refl;
  outputs = refl;
  soundness = h.1;
  number = λ r. number_by (log_of rs) r (eqb (length rs) most_readings) (refuses_log_of rs h);
  kind = λ r. kind_by rs r (eqb (length rs) most_readings) (differs r) (refuses_log_of rs h) refl;
}

-- from a fresh log, any list of updates with words of 16 outputs leaves the log of its history
pub history : (updates : List Reading) → AllFit updates → History updates (accepted fresh_log updates) (after fresh_log updates)
history updates w =
    let p = after_log_of updates [] in
    rw (← fresh_is, p) (logged updates (accepted (log_of []) updates) (accepted_log_of updates [] most_readings w whole_none refl) (subst Whole p (whole_after updates (log_of []) w whole_none)))
