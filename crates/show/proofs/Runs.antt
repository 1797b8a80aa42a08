-- The runs that stored bytes hold: the first one, those behind it, and those that stand behind their counts.
use mathlib.Core.Path.{◌≡◌, refl, ap, ap₂, ◌∙◌}
use mathlib.Core.List.{List, [], ◌∷◌}
use Prim.Native.Nat.{ℕ, zero, suc, ◌+◌, ◌-◌, ◌*◌, ◌≤◌}
use native.Mathlib.Omega.{arith}
use lib.ListN.{length, get_or, take, drop, length-drop}
use lib.Seq.{take_all}
use Rattle.std.specs.Prelude.{Option, Some, None}
use Rattle.machine.specs.Plans.{runs_in}
use Rattle.machine.proofs.Stored.{runs_first}
use Rattle.several.specs.Lists.{split_list, list_in}
use Rattle.show.specs.inner.Steps.{first_run}

-- what an answer holds
abbrev parts : Option (List ℕ × List ℕ) → List ℕ × List ℕ
parts None = ([], [])
parts (Some p) = p

pub next_run : (bs : List ℕ) {run rest : List ℕ} → first_run bs ≡ Some (run, rest) → runs_in bs ≡ run ∷ runs_in rest
next_run [] e = absurd (cc)
next_run (b ∷ []) e = absurd (cc)
next_run (low ∷ high ∷ bs) {run} {rest} e =
    let n = high * 256 + low in
    let r : take n bs ≡ run = ap (λ o. (parts o).0) e in
    let s : drop n bs ≡ rest = ap (λ o. (parts o).1) e in
    runs_first low high bs ∙ ap₂ (λ (run rest : List ℕ). run ∷ runs_in rest) r s

-- fewer bytes are left
pub run_shorter : (bs : List ℕ) {run rest : List ℕ} → first_run bs ≡ Some (run, rest) → length rest + 2 ≤ length bs
run_shorter [] e = absurd (cc)
run_shorter (b ∷ []) e = absurd (cc)
run_shorter (low ∷ high ∷ bs) {run} {rest} e =
    let n = high * 256 + low in
    let s : drop n bs ≡ rest = ap (λ o. (parts o).1) e in
    omega (arith, ap length s, length-drop n bs)

-- to look for more runs than the bytes hold makes no difference
split_same : (k j : ℕ) (bs : List ℕ) → length bs ≤ k → length bs ≤ j → split_list k bs ≡ split_list j bs
split_same zero zero bs h g = refl
split_same zero (suc j) [] h g = refl
split_same zero (suc j) (b ∷ bs) h g = absurd (omega arith)
split_same (suc k) zero [] h g = refl
split_same (suc k) zero (b ∷ bs) h g = absurd (omega arith)
split_same (suc k) (suc j) [] h g = refl
split_same (suc k) (suc j) (a ∷ []) h g = refl
split_same (suc k) (suc j) (a ∷ b ∷ []) h g = refl
split_same (suc k) (suc j) (a ∷ b ∷ low ∷ []) h g = refl
split_same (suc k) (suc j) (a ∷ b ∷ low ∷ high ∷ bs) h g =
    let n = high * 256 + low in
    ap (λ (l : List (ℕ × List ℕ)). (b * 256 + a, take n bs) ∷ l) (split_same k j (drop n bs) (rw length-drop (omega arith)) (rw length-drop (omega arith)))

listed : (a b : ℕ) (bs : List ℕ) {run rest : List ℕ} → first_run bs ≡ Some (run, rest) → list_in (a ∷ b ∷ bs) ≡ (b * 256 + a, run) ∷ list_in rest
listed a b [] e = absurd (cc)
listed a b (low ∷ []) e = absurd (cc)
listed a b (low ∷ high ∷ bs) {run} {rest} e =
    let n = high * 256 + low in
    let r : take n bs ≡ run = ap (λ o. (parts o).0) e in
    let s : drop n bs ≡ rest = ap (λ o. (parts o).1) e in
    ap (λ (l : List (ℕ × List ℕ)). (b * 256 + a, take n bs) ∷ l)
    (split_same (suc (suc (suc (length bs)))) (length (drop n bs)) (drop n bs) (rw length-drop (omega arith)) (omega arith))
    ∙ ap₂ (λ (run rest : List ℕ). (b * 256 + a, run) ∷ list_in rest) r s

pub next_listed : (bs : List ℕ) {run rest : List ℕ} → 2 ≤ length bs → first_run (take (length bs - 2) (drop 2 bs)) ≡ Some (run, rest)
    → list_in bs ≡ (get_or bs 1 0 * 256 + get_or bs 0 0, run) ∷ list_in rest
next_listed [] h e = absurd (omega arith)
next_listed (a ∷ []) h e = absurd (omega arith)
next_listed (a ∷ b ∷ bs) h e = listed a b bs (rw (take_all (length (a ∷ b ∷ bs) - 2) bs (omega arith)) at e)
