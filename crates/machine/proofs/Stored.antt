-- Stored runs split back in one way only: by induction on the runs, each count telling where its run ends.
use mathlib.Core.Path.{◌≡◌, refl, sym, ap, ap₂, ◌∙◌}
use mathlib.Core.Logic.{⊎_elim}
use mathlib.Core.List.{List, [], ◌∷◌, ◌++◌, append_assoc, append-nil}
use Prim.Native.Nat.{ℕ, zero, suc, ◌+◌, ◌*◌, ◌/◌, ◌%◌, ◌≤◌, ◌<◌}
use native.Mathlib.Nat.{div-add-mod'}
use native.Mathlib.Omega.{arith}
use lib.ListN.{length, get_or, take, drop, length-drop}
use lib.Seq.{take-append_seam, drop-append_seam}
use Rattle.machine.specs.Lists.{In}
use Rattle.machine.specs.Runs.{Machine, size, Goes, Run}
use Rattle.machine.specs.Plans.{stored_run, stored, split, runs_in}
use Rattle.machine.proofs.Members.{in_at}

-- to look for more runs than the bytes hold makes no difference
split_same : (k j : ℕ) (bs : List ℕ) → length bs ≤ k → length bs ≤ j → split k bs ≡ split j bs
split_same zero zero bs h g = refl
split_same zero (suc j) [] h g = refl
split_same zero (suc j) (b ∷ bs) h g = absurd (omega arith)
split_same (suc k) zero [] h g = refl
split_same (suc k) zero (b ∷ bs) h g = absurd (omega arith)
split_same (suc k) (suc j) [] h g = refl
split_same (suc k) (suc j) (low ∷ []) h g = refl
split_same (suc k) (suc j) (low ∷ high ∷ bs) h g =
    let n = high * 256 + low in
    ap (λ (l : List (List ℕ)). take n bs ∷ l) (split_same k j (drop n bs) (rw length-drop (omega arith)) (rw length-drop (omega arith)))

-- the first run, and those behind it
pub runs_first : (low high : ℕ) (bs : List ℕ) → runs_in (low ∷ high ∷ bs) ≡ take (high * 256 + low) bs ∷ runs_in (drop (high * 256 + low) bs)
runs_first low high bs =
    let n = high * 256 + low in
    ap (λ (l : List (List ℕ)). take n bs ∷ l) (split_same (suc (length bs)) (length (drop n bs)) (drop n bs) (rw length-drop (omega arith)) (omega arith))

-- stored settings in front of other bytes are the first of the runs that these hold
pub runs_stored : (vs after : List ℕ) → runs_in (stored_run vs ++ after) ≡ vs ∷ runs_in after
runs_stored vs after =
    let n : length vs / 256 * 256 + length vs % 256 ≡ length vs = div-add-mod' (length vs) 256 in
    runs_first (length vs % 256) (length vs / 256) (vs ++ after) ∙ rw n (ap₂ (λ (run rest : List ℕ). run ∷ runs_in rest) (take-append_seam vs after) (drop-append_seam vs after))

-- stored bytes split back into the same runs
pub split_stored : (plan : List (List ℕ)) → runs_in (stored plan) ≡ plan
split_stored [] = refl
split_stored (vs ∷ plan) = runs_stored vs (stored plan) ∙ ap (λ (runs : List (List ℕ)). vs ∷ runs) (split_stored plan)

-- and into no others
pub stored_once : (p q : List (List ℕ)) → stored p ≡ stored q → p ≡ q
stored_once p q e = sym (split_stored p) ∙ ap runs_in e ∙ split_stored q

-- more runs are stored behind the others
pub stored_append : (plan more : List (List ℕ)) → stored (plan ++ more) ≡ stored plan ++ stored more
stored_append [] more = refl
stored_append (ws ∷ plan) more = rw (stored_append plan more) (sym (append_assoc (stored_run ws) (stored plan) (stored more)))

pub stored_more : (plan : List (List ℕ)) (vs : List ℕ) → stored (plan ++ (vs ∷ [])) ≡ stored plan ++ stored_run vs
stored_more plan vs = stored_append plan (vs ∷ []) ∙ ap (λ (l : List ℕ). stored plan ++ l) (append-nil (stored_run vs))

-- the settings of a run are below the size
goes_below : (m : Machine) (v : ℕ) (ws : List ℕ) → Goes m v ws → (w : ℕ) → In w ws → w < size m
goes_below m v [] g w i = absurd i
goes_below m v (u ∷ ws) g w i = ⊎_elim (λ e. rw e g.0.below) (λ j. goes_below m u ws g.1 w j) i

pub run_below : (m : Machine) (vs : List ℕ) → Run m vs → (w : ℕ) → In w vs → w < size m
run_below m [] r w i = absurd i
run_below m (v ∷ vs) r w i = ⊎_elim (λ e. rw e r.0.below) (λ j. goes_below m v vs r.1 w j) i

pub setting_below : (m : Machine) (vs : List ℕ) → Run m vs → (i : ℕ) → i < length vs → get_or vs i 0 < size m
setting_below m vs r i l = run_below m vs r (get_or vs i 0) (in_at vs i l)

-- and there are some
pub run_some : (m : Machine) (vs : List ℕ) → Run m vs → 0 < length vs
run_some m [] r = absurd r
run_some m (v ∷ vs) r = omega arith
