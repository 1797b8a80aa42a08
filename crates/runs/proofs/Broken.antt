-- Refusal 19: the bytes behind a stored run are broken where the whole is, further on; so a search that goes from run to run finds the
-- first broken byte, and no byte is broken exactly where the bytes are stored runs.
use mathlib.Core.Path.{◌≡◌, refl, sym, ap, subst, ◌∙◌}
use mathlib.Core.Logic.{◌↔◌, ⊎_elim, inl, inr}
use mathlib.Core.List.{List, [], ◌∷◌, ◌++◌, append_assoc}
use Prim.Native.Nat.{ℕ, zero, suc, ◌+◌, ◌-◌, ◌≤◌, ◌<◌}
use native.Mathlib.Omega.{arith}
use native.Mathlib.Nat.{add-zero}
use lib.ListN.{length, take, drop, length-append, length-drop, take-append-drop}
use lib.Seq.{take-append_seam, drop-append_seam, take-append-add, drop-append-add, length-take-le}
use Rattle.verdict.specs.Checks.{Nowhere, Least}
use Rattle.machine.specs.Lists.{In}
use Rattle.machine.specs.Runs.{Machine, Run, Fault}
use Rattle.machine.specs.Plans.{stored_run, stored, runs_in}
use Rattle.machine.proofs.Order.{below_or}
use Rattle.machine.proofs.Stored.{runs_stored}
use Rattle.machine.proofs.Faults.{run_faultless}
use Rattle.runs.specs.Stored.{settings_at, StoredRuns, Broken}
use Rattle.runs.specs.inner.Splits.{Whole, RunAt}
use Rattle.runs.proofs.Front.{stored_front, whole_at, cut_none, front_or}

module _ (m : Machine) where
  -- a broken byte of what stands behind stored settings
  pub broken_behind : (vs : List ℕ) {after : List ℕ} {q : ℕ} → Broken m after q → Broken m (stored_run vs ++ after) (length (stored_run vs) + q)
  broken_behind vs {after} {q} b = record {
    inside = omega (arith, b.inside, length-append (stored_run vs) after);
    before = vs ∷ b.before;
    splits = take-append-add (stored_run vs) after q ∙ ap (λ (l : List ℕ). stored_run vs ++ l) b.splits;
    refused = λ us rest e. b.refused us rest (sym (drop-append-add (stored_run vs) after q) ∙ e);
  }

  -- and a run's own bytes are not broken
  pub broken_ahead : (vs : List ℕ) {after : List ℕ} {p : ℕ} → Run m vs → Broken m (stored_run vs ++ after) p → (q : ℕ) × (p ≡ length (stored_run vs) + q) × Broken m after q
  broken_ahead vs {after} {p} r b = by b.before b.splits
    where
      bytes : List ℕ
      bytes = stored_run vs ++ after

      reach : length (take p bytes) ≡ p
      reach = length-take-le p bytes (omega (arith, b.inside))

      by : (before : List (List ℕ)) → take p bytes ≡ stored before → (q : ℕ) × (p ≡ length (stored_run vs) + q) × Broken m after q
      by [] s =
          let z : p ≡ 0 = sym reach ∙ ap length s in
          let (i, f) = b.refused vs after (ap (λ (k : ℕ). drop k bytes) z) in
          absurd ((run_faultless m vs).0 r i f)
      by (ws ∷ before) s =
          let q = length (stored before) in
          let (same, is) = stored_front vs ws after (stored before ++ drop p bytes)
          (sym (take-append-drop p bytes) ∙ ap (λ (l : List ℕ). l ++ drop p bytes) s ∙ append_assoc (stored_run ws) (stored before) (drop p bytes)) in
          let at : p ≡ length (stored_run vs) + q = sym reach ∙ ap length s ∙ length-append (stored_run ws) (stored before) ∙ ap (λ (us : List ℕ). length (stored_run us) + q) (sym same) in (
            q,
            at,
            record {
              inside = omega (arith, b.inside, length-append (stored_run vs) after);
              before = before;
              splits = ap (take q) is ∙ take-append_seam (stored before) (drop p bytes);
              refused = λ us rest e. b.refused us rest (sym (drop-append_seam (stored before) (drop p bytes)) ∙ ap (drop q) (sym is) ∙ e);
            },
          )

  -- stored runs are broken nowhere
  unbroken : (runs : List (List ℕ)) → ((vs : List ℕ) → In vs runs → Run m vs) → (p : ℕ) → Broken m (stored runs) p → ⊥
  unbroken [] each p b = omega (arith, b.inside)
  unbroken (vs ∷ runs) each p b = let (q, _, behind) = broken_ahead vs (each vs (inl refl)) b in unbroken runs (λ us i. each us (inr i)) q behind

  -- bytes of which no settings are stored at the front
  none_broken : {bytes : List ℕ} → 0 < length bytes → ((vs after : List ℕ) → bytes ≡ stored_run vs ++ after → ⊥) → Broken m bytes 0
  none_broken l n = record { inside = l; before = []; splits = refl; refused = λ vs after e. absurd (n vs after e) }

  -- or of which those that are have a fault
  fault_broken : (vs after : List ℕ) {i : ℕ} → Fault m vs i → Broken m (stored_run vs ++ after) 0
  fault_broken vs after {i} f = record {
    inside = omega arith;
    before = [];
    splits = refl;
    refused = λ us rest e. (i, subst (λ ws. Fault m ws i) (stored_front vs us after rest e).0 f);
  }

  -- the two answers of a search for the run at a byte
  pub next_none : (bytes : List ℕ) {p : ℕ} → p < length bytes → length bytes < p + 2 + settings_at bytes p → Broken m (drop p bytes) 0
  next_none bytes {p} l c = none_broken (omega (arith, length-drop p bytes)) (cut_none bytes p c)

  pub next_fault : {bytes : List ℕ} {p e i : ℕ} → Whole bytes p e → Fault m (take (e - (p + 2)) (drop (p + 2) bytes)) i → Broken m (drop p bytes) 0
  next_fault w f = let s = whole_at w in subst (λ l. Broken m l 0) (sym s.is) (fault_broken _ _ f)

  pub next_run : {bytes : List ℕ} {p e : ℕ} → Whole bytes p e → Nowhere (Fault m (take (e - (p + 2)) (drop (p + 2) bytes))) → RunAt m bytes p e
  next_run w n = record { settings = _; run = (run_faultless m _).1 n.nowhere; stored = whole_at w }

  -- a stored run in front of stored runs
  stored_cons : (vs : List ℕ) {after : List ℕ} → Run m vs → StoredRuns m after → StoredRuns m (stored_run vs ++ after)
  stored_cons vs {after} r s =
      let e = runs_stored vs after in
      record {
        runs = λ us i. ⊎_elim (λ f. subst (Run m) (sym f) r) (s.runs us) (subst (In us) e i);
        splits = ap stored e ∙ ap (λ (l : List ℕ). stored_run vs ++ l) s.splits;
      }

  stored_none : (bytes : List ℕ) → length bytes ≤ 0 → StoredRuns m bytes
  stored_none [] l = record { runs = λ vs i. absurd i; splits = refl }
  stored_none (b ∷ bytes) l = absurd (omega arith)

  passed_runs : (k : ℕ) (bytes : List ℕ) → length bytes ≤ k → Nowhere (Broken m bytes) → StoredRuns m bytes
  passed_runs zero bytes l n = stored_none bytes l
  passed_runs (suc k) bytes l n = ⊎_elim
      (λ x.
      let (vs, after, e) = x in
      let none : Nowhere (Broken m (stored_run vs ++ after)) = subst (λ a. Nowhere (Broken m a)) e n in
      subst (StoredRuns m) (sym e)
      (stored_cons vs ((run_faultless m vs).1 (λ i f. none.nowhere 0 (fault_broken vs after f)))
      (passed_runs k after (omega (arith, ap length e ∙ length-append (stored_run vs) after)) (record { nowhere = λ q x. none.nowhere _ (broken_behind vs x) }))))
      (λ x. ⊎_elim (λ h. absurd (n.nowhere 0 (none_broken h x))) (stored_none bytes) (below_or 0 (length bytes)))
      (front_or bytes)

  -- the bytes that pass 19 are stored runs, and the other way round
  pub stored_runs : (bytes : List ℕ) → Nowhere (Broken m bytes) ↔ StoredRuns m bytes
  stored_runs bytes = (passed_runs (length bytes) bytes (omega arith), λ s. record { nowhere = subst (λ b. (p : ℕ) → Broken m b p → ⊥) s.splits (unbroken (runs_in bytes) s.runs) })

-- A search from run to run: the bytes from byte p on are broken where the whole is.
pub record Past (m : Machine) (bytes : List ℕ) (p : ℕ) : Type 0 where
  pub within : p ≤ length bytes
  pub ahead : (q : ℕ) → Broken m bytes q → (r : ℕ) × (q ≡ p + r) × Broken m (drop p bytes) r
  pub back : (r : ℕ) → Broken m (drop p bytes) r → Broken m bytes (p + r)

module _ {m : Machine} {bytes : List ℕ} {p : ℕ} (x : Past m bytes p) where
  -- a run stored there, or none
  pub past_more : {e : ℕ} → RunAt m bytes p e → (p < e) × Past m bytes e
  past_more {e} t = let s = t.stored in (
    omega (arith, s.ends),
    record {
      within = s.within;
      ahead = λ q b.
          let (k, f, c) = x.ahead q b in
          let (j, g, d) = broken_ahead m t.settings t.run (subst (λ l. Broken m l k) s.is c) in
          (j, omega (arith, f, g, s.ends), d);
      back = λ k b.
          let c = x.back (length (stored_run t.settings) + k) (subst (λ l. Broken m l (length (stored_run t.settings) + k)) (sym s.is) (broken_behind m t.settings b)) in
          let n : p + (length (stored_run t.settings) + k) ≡ e + k = omega (arith, s.ends) in
          subst (Broken m bytes) n c;
    },
  )

  pub past_found : Broken m (drop p bytes) 0 → Least (Broken m bytes) p
  past_found b = record { here = subst (Broken m bytes) (add-zero p) (x.back 0 b); first = λ q l c. let (r, e, _) = x.ahead q c in omega arith }

  pub past_end : length bytes ≤ p → Nowhere (Broken m bytes)
  past_end l = record { nowhere = λ q b. let (r, e, c) = x.ahead q b in omega (arith, c.inside, length-drop p bytes) }
