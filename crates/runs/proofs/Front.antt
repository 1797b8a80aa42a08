-- Settings that are stored at a byte: the bytes tell them and where they end, by their count; and the first of stored runs.
use mathlib.Core.Path.{◌≡◌, refl, sym, ap, subst, ◌∙◌}
use mathlib.Core.Logic.{◌⊎◌, inl, inr}
use mathlib.Core.List.{List, [], ◌∷◌, ◌++◌}
use Prim.Native.Nat.{ℕ, ◌+◌, ◌-◌, ◌/◌, ◌%◌, ◌≤◌, ◌<◌}
use native.Mathlib.Omega.{arith}
use native.Mathlib.Nat.{add-zero, div-add-mod'}
use lib.ListN.{length, get_or, take, drop, length-append, length-drop, take-append-drop}
use lib.Seq.{take_at, drop_at, take-append_seam, drop-append_seam, length-take-le, get_or-drop, drop-drop}
use lib.Arith.{digits_div, digits_mod}
use Rattle.machine.specs.Lists.{In}
use Rattle.machine.specs.Runs.{Machine, Run}
use Rattle.machine.specs.Plans.{stored_run, stored, runs_in}
use Rattle.machine.proofs.Order.{below_or}
use Rattle.machine.proofs.Stored.{runs_stored}
use Rattle.runs.specs.Stored.{settings_at, stored_end, StoredRuns}
use Rattle.runs.specs.inner.Splits.{Whole, StoredAt}
use Rattle.runs.proofs.Split.{begins}

-- settings stored in front of other bytes are told by the bytes
pub stored_front : (vs ws a b : List ℕ) → stored_run vs ++ a ≡ stored_run ws ++ b → (vs ≡ ws) × (a ≡ b)
stored_front vs ws a b e =
    let low : length vs % 256 ≡ length ws % 256 = ap (λ (l : List ℕ). get_or l 0 0) e in
    let high : length vs / 256 ≡ length ws / 256 = ap (λ (l : List ℕ). get_or l 1 0) e in
    let n : length ws ≡ length vs = omega arith in
    let rest : vs ++ a ≡ ws ++ b = ap (drop 2) e in
    (sym (take-append_seam vs a) ∙ ap (take (length vs)) rest ∙ take_at ws b (length vs) n, sym (drop-append_seam vs a) ∙ ap (drop (length vs)) rest ∙ drop_at ws b (length vs) n)

-- the count at a byte tells the settings that are stored there
low_is : (bytes : List ℕ) (p : ℕ) (vs after : List ℕ) → drop p bytes ≡ stored_run vs ++ after → get_or bytes p 0 ≡ length vs % 256
low_is bytes p vs after e = ap (λ (k : ℕ). get_or bytes k 0) (sym (add-zero p)) ∙ sym (get_or-drop p bytes 0 0) ∙ ap (λ (l : List ℕ). get_or l 0 0) e

count_is : (bytes : List ℕ) (p : ℕ) (vs after : List ℕ) → drop p bytes ≡ stored_run vs ++ after → settings_at bytes p ≡ length vs
count_is bytes p vs after e =
    let high : get_or bytes (p + 1) 0 ≡ length vs / 256 = sym (get_or-drop p bytes 1 0) ∙ ap (λ (l : List ℕ). get_or l 1 0) e in
    rw (low_is bytes p vs after e, high) (div-add-mod' (length vs) 256)

-- and a count that the bytes go along with stores as many
pub whole_at : {bytes : List ℕ} {p e : ℕ} → Whole bytes p e → StoredAt bytes p (take (e - (p + 2)) (drop (p + 2) bytes)) e
whole_at {bytes} {p} {e} w =
    let end = w.ends in
    let fits = w.within in
    let byte = w.low_byte in
    let n = e - (p + 2) in
    let rest = drop (p + 2) bytes in
    let is : n ≡ settings_at bytes p = omega arith in
    let long : length (take n rest) ≡ settings_at bytes p = length-take-le n rest (rw length-drop (omega arith)) ∙ is in
    let low : length (take n rest) % 256 ≡ get_or bytes p 0 = ap (λ (x : ℕ). x % 256) long ∙ digits_mod (get_or bytes (p + 1) 0) byte in
    let high : length (take n rest) / 256 ≡ get_or bytes (p + 1) 0 = ap (λ (x : ℕ). x / 256) long ∙ digits_div (get_or bytes (p + 1) 0) byte in
    let ahead : p + 2 + n ≡ e = omega arith in
    let behind : take n rest ++ drop e bytes ≡ rest = ap (λ (l : List ℕ). take n rest ++ l) (ap (λ (k : ℕ). drop k bytes) (sym ahead) ∙ sym (drop-drop n (p + 2) bytes)) ∙ take-append-drop n rest in
    record { is = begins bytes p (omega arith) ∙ rw (low, high, behind); ends = omega (arith, long); within = fits }

-- bytes that end before the run that is counted there store no settings
pub cut_none : (bytes : List ℕ) (p : ℕ) → length bytes < p + 2 + settings_at bytes p → (vs after : List ℕ) → drop p bytes ≡ stored_run vs ++ after → ⊥
cut_none bytes p l vs after e = omega (arith, l, count_is bytes p vs after e, length-drop p bytes, ap length e ∙ length-append (stored_run vs) after)

-- settings are stored at the front of bytes, or none are
pub front_or : (bytes : List ℕ) → ((vs : List ℕ) × (after : List ℕ) × (bytes ≡ stored_run vs ++ after)) ⊎ ((vs after : List ℕ) → bytes ≡ stored_run vs ++ after → ⊥)
front_or bytes = by (below_or (get_or bytes 0 0) 256) (below_or (length bytes) e)
  where
    e : ℕ
    e = 0 + 2 + settings_at bytes 0

    by : (get_or bytes 0 0 < 256) ⊎ (256 ≤ get_or bytes 0 0) → (length bytes < e) ⊎ (e ≤ length bytes)
        → ((vs : List ℕ) × (after : List ℕ) × (bytes ≡ stored_run vs ++ after)) ⊎ ((vs after : List ℕ) → bytes ≡ stored_run vs ++ after → ⊥)
    by (inr h) l = inr (λ vs after f. omega (arith, low_is bytes 0 vs after f))
    by (inl h) (inl l) = inr (cut_none bytes 0 l)
    by (inl h) (inr l) = inl (take (e - 2) (drop 2 bytes), drop e bytes, (whole_at {p = 0} (record { low_byte = h; ends = refl; within = l })).is)

-- the run vs is the first of the stored runs from byte p on, and ends at byte e
pub record First (m : Machine) (bytes : List ℕ) (p : ℕ) (vs : List ℕ) (e : ℕ) : Type 0 where
  pub run : Run m vs
  pub at : StoredAt bytes p vs e
  pub first : runs_in (drop p bytes) ≡ vs ∷ runs_in (drop e bytes)
  pub behind : StoredRuns m (drop e bytes)

module _ {m : Machine} {bytes : List ℕ} {p e : ℕ} (s : StoredRuns m (drop p bytes)) (l : p < length bytes) (f : e ≡ stored_end bytes p) where
  -- what is stored is as long as its count says
  first_whole : (runs : List (List ℕ)) → stored runs ≡ drop p bytes → Whole bytes p e
  first_whole [] g = absurd (omega (arith, length-drop p bytes, ap length g))
  first_whole (vs ∷ later) g =
      let n = count_is bytes p vs (stored later) (sym g) in
      let long = sym (ap length g) ∙ length-append (stored_run vs) (stored later) in
      record { low_byte = omega (arith, low_is bytes p vs (stored later) (sym g)); ends = omega (arith, length-drop p bytes); within = omega arith }

  pub first_run : First m bytes p (take (e - (p + 2)) (drop (p + 2) bytes)) e
  first_run =
      let run = take (e - (p + 2)) (drop (p + 2) bytes) in
      let at = whole_at (first_whole (runs_in (drop p bytes)) s.splits) in
      let first = ap runs_in at.is ∙ runs_stored run (drop e bytes) in
      record {
        run = s.runs run (subst (In run) (sym first) (inl refl));
        at = at;
        first = first;
        behind = record {
          runs = λ vs i. s.runs vs (subst (In vs) (sym first) (inr i));
          splits = (stored_front run run (stored (runs_in (drop e bytes))) (drop e bytes) (sym (ap stored first) ∙ s.splits ∙ at.is)).1;
        };
      }
