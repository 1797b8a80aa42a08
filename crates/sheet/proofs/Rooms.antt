-- Every text that is printed has room: ranks are below the number of couples, the runs of plan and list have no more settings than there
-- are couples and fewer multiple changes, each setting is a byte, and numbers are words of the machine.
use mathlib.Core.Path.{refl, sym, subst, ◌∙◌}
use mathlib.Core.Logic.{inl, inr, ⊎_elim}
use mathlib.Core.List.{List, [], ◌∷◌, ◌++◌}
use Prim.Native.Nat.{ℕ, ◌^◌, ◌≤◌, ◌<◌}
use native.Mathlib.Omega.{arith}
use lib.ListN.{length}
use Rattle.machine.specs.Limits.{most_inputs, most_states, most_couples}
use Rattle.machine.specs.Lists.{In}
use Rattle.machine.specs.Runs.{Machine, couples, Sound, RanksOf}
use Rattle.machine.specs.Plans.{Plan, empty, pass, add, stored_run, stored}
use Rattle.machine.proofs.Couples.{settings_bound, couples_bound}
use Rattle.machine.proofs.Members.{in_either}
use Rattle.machine.proofs.Small.{rank_small, run_to_small}
use Rattle.machine.proofs.Stored.{run_below}
use Rattle.machine.proofs.Plans.{plan_runs}
use Rattle.several.specs.Several.{singly, multiples}
use Rattle.several.specs.Lists.{stored_multi, stored_list}
use Rattle.several.proofs.Lists.{list_to_lem}
use Rattle.several.proofs.Runs.{multi_small}
use Rattle.several.proofs.Single.{singly_sound}
use Rattle.plan.specs.Planning.{PlanBytes}
use Rattle.plan.specs.Multi.{ListBytes}
use Rattle.show.specs.Sheet.{sheet_text, refusal_text}
use Rattle.show.specs.Written.{Writes}
use Rattle.std.specs.Prelude.{Result, IsOk}
use Rattle.show.specs.declared.Short.{Short}
use Rattle.show.proofs.Over.{written_fits}
use Rattle.show.proofs.Room.{Bytes, sheet_room, ranks_low, refusal_room}
use Rattle.sheet.specs.Printed.{plan_room, list_room, text_room}

-- bytes of settings, and of stored runs
bytes_of : (vs : List ℕ) → ((w : ℕ) → In w vs → w < 256) → Bytes vs
bytes_of [] h = tt
bytes_of (v ∷ vs) h = (h v (inl refl), bytes_of vs (λ w i. h w (inr i)))

bytes_append : (xs ys : List ℕ) → Bytes xs → Bytes ys → Bytes (xs ++ ys)
bytes_append [] ys b d = d
bytes_append (x ∷ xs) ys b d = (b.0, bytes_append xs ys b.1 d)

run_bytes : (vs : List ℕ) → length vs < 65536 → ((w : ℕ) → In w vs → w < 256) → Bytes (stored_run vs)
run_bytes vs l h = (omega arith, (omega arith, bytes_of vs h))

stored_bytes : (plan : List (List ℕ)) → ((vs : List ℕ) → In vs plan → (length vs < 65536) × ((w : ℕ) → In w vs → w < 256)) → Bytes (stored plan)
stored_bytes [] h = tt
stored_bytes (vs ∷ plan) h =
    let k = h vs (inl refl) in
    bytes_append (stored_run vs) (stored plan) (run_bytes vs k.0 k.1) (stored_bytes plan (λ ws i. h ws (inr i)))

listed_bytes : (m : Machine) (list : List (List ℕ))
    → ((vs : List ℕ) → In vs list → (multiples m vs < length vs) × (length vs < 65536) × ((w : ℕ) → In w vs → w < 256)) → Bytes (stored_list m list)
listed_bytes m [] h = tt
listed_bytes m (vs ∷ list) h =
    let k = h vs (inl refl) in
    let run = run_bytes vs k.1 k.2 in
    bytes_append (stored_multi m vs) (stored_list m list) (omega arith, (omega (arith, k.0, k.1), run)) (listed_bytes m list (λ ws i. h ws (inr i)))

-- a run of a plan has no more settings than there are couples
run_short_lem : {m : Machine} → Sound m → {t : ℕ} {plan : List (List ℕ)} → Plan m t plan → (vs : List ℕ) → In vs plan → length vs ≤ couples m
run_short_lem ok empty vs i = absurd i
run_short_lem ok (pass x f) vs i = run_short_lem ok x vs i
run_short_lem {m} ok (add {plan = plan} {vs = ws} x n r) vs i =
    ⊎_elim (λ j. run_short_lem ok x vs j) (⊎_elim (λ e. subst (λ l. length l ≤ couples m) (sym e) (run_to_small ok r)) absurd) (in_either vs plan (ws ∷ []) i)

module _ {m : Machine} (ok : Sound m) (few_inputs : m.inputs ≤ most_inputs) (few_states : m.states ≤ most_states) where
  few : couples m ≤ most_couples
  few = couples_bound _ _ few_states (settings_bound few_inputs)

  plan_bytes : {bytes : List ℕ} → PlanBytes (singly m) bytes → Bytes bytes
  plan_bytes (plan, x, e) = subst Bytes (sym e) (stored_bytes plan (λ vs i.
      (omega (arith, run_short_lem (singly_sound ok) x vs i, few), λ w j. omega (arith, run_below (singly m) vs (plan_runs x vs i) w j, settings_bound few_inputs))))

  list_bytes : {bytes : List ℕ} → ListBytes m bytes → Bytes bytes
  list_bytes (plan, list, x, y, e) = subst Bytes (sym e) (listed_bytes m list (λ vs i.
      let (c, n, z) = list_to_lem y vs i in
      let (short, fewer) = multi_small ok z in
      (fewer, omega (arith, few), λ w j. omega (arith, run_below m vs z.visitor.run w j, settings_bound few_inputs))))

  pub sheet_fits : {ranks bytes list : List ℕ} → RanksOf (singly m) ranks → PlanBytes (singly m) bytes → length bytes ≤ plan_room → ListBytes m list → length list ≤ list_room
      → length (sheet_text m.inputs m.states ranks bytes list) ≤ text_room
  sheet_fits {ranks} {bytes} {list} r b l d k =
      let low = ranks_low (couples m) ranks (λ c h. ⊎_elim (λ x. inl (rank_small (singly_sound ok) x.1)) (λ x. inr x.0) (r.each c (omega (arith, r.whole)))) in
      omega (
        arith,
        few,
        r.whole,
        sheet_room m.inputs m.states ranks bytes list (omega arith) (omega arith) (omega (arith, few, r.whole)) (omega (arith, r.whole)) (omega arith) (plan_bytes b) (list_bytes d),
      )

pub refusal_fits : (number place character : ℕ) → number < 2 ^ 64 → place < 2 ^ 64 → character < 2 ^ 64 → length (refusal_text number place character) ≤ text_room
refusal_fits number place character n p c = omega (arith, refusal_room number place character (omega arith) (omega arith) (omega arith))

-- a text that has room is written whole
pub written_whole : {text before after : List ℕ} {answer : Result ℕ Short} → Writes text answer before after → length text ≤ length before → IsOk answer
written_whole {text} {before} w h = subst IsOk (sym (w.answered ∙ written_fits text before h)) refl
