-- The scan that closes a set of states under the moves: flags that are up are of reached states, the couples scanned lead to flags
-- that are up, and each new flag starts the scan again with less to do.
use mathlib.Core.Path.{◌≡◌, refl, sym, ap, subst, ◌∙◌}
use mathlib.Core.Bool.{Bool, true, false}
use mathlib.Core.List.{List, [], ◌∷◌}
use mathlib.Core.Logic.{⊎_elim}
use Prim.Native.Nat.{ℕ, zero, suc, ◌+◌, ◌*◌, ◌/◌, ◌%◌, ◌-◌, ◌≤◌, ◌<◌}
use native.Mathlib.Nat.{not-suc-le-zero, le_of_suc-le-suc, eq-or-lt_of_le, lt_of_lt_of_le, mod-lt, div-add-mod', suc-mul}
use native.Mathlib.Decide.{ℕ_discrete}
use native.Mathlib.Numerals.{add-one}
use native.Mathlib.Omega.{arith}
use lib.ListN.{length, get_or, set, replicate, length-set}
use lib.Seq.{get_or-set_same, get_or-set_other}
use lib.Arith.{digits_div, digits_lt}
use Rattle.verdict.specs.Checks.{Decides}
use Rattle.machine.specs.Limits.{most_states}
use Rattle.machine.specs.Moves.{table_moves, Reached, start, step}
use Rattle.tables.specs.inner.Fits.{Fit}
use Rattle.verdict.proofs.Tests.{true≢false}

-- how many flags are down
abbrev pub unseen : List Bool → ℕ
unseen [] = 0
unseen (true ∷ l) = unseen l
unseen (false ∷ l) = suc (unseen l)

pub unseen_set : (l : List Bool) (m : ℕ) → m < length l → get_or l m false ≡ false → unseen l ≡ suc (unseen (set l m true))
unseen_set [] m h e = absurd (not-suc-le-zero h)
unseen_set (true ∷ l) zero h e = absurd (true≢false e)
unseen_set (false ∷ l) zero h e = refl
unseen_set (true ∷ l) (suc m) h e = unseen_set l m (le_of_suc-le-suc h) e
unseen_set (false ∷ l) (suc m) h e = ap suc (unseen_set l m (le_of_suc-le-suc h) e)

-- a flag that is up after one was put up: it is the one, or was up before
pub set_up : (P : ℕ → Type 0) (l : List Bool) (m s : ℕ) → P m → (get_or l s false ≡ true → P s) → get_or (set l m true) s false ≡ true → P s
set_up P l m s here other e = by (ℕ_discrete s m)
  where
    by : Dec (s ≡ m) → P s
    by (yes q) = subst P (sym q) here
    by (no q) = other (sym (get_or-set_other l m s true false q) ∙ e)

-- a flag that was up stays up
pub set_keeps : (l : List Bool) (m s : ℕ) → m < length l → get_or l s false ≡ true → get_or (set l m true) s false ≡ true
set_keeps l m s h e = by (ℕ_discrete s m)
  where
    by : Dec (s ≡ m) → get_or (set l m true) s false ≡ true
    by (yes q) = ap (λ k. get_or (set l m true) k false) q ∙ get_or-set_same l m true false h
    by (no q) = get_or-set_other l m s true false q ∙ e

module _ (table : List ℕ) (settings initial : ℕ) where
  -- the flags that are up are those of reached states, and the couples below p lead to flags that are up
  pub record Scanned (seen : List Bool) (p : ℕ) : Type 0 where
    pub size : length seen ≡ most_states
    pub sound : (s : ℕ) → get_or seen s false ≡ true → Reached (table_moves table settings) settings initial s
    pub begun : get_or seen initial false ≡ true
    pub closed : (s v : ℕ) → v < settings → s * settings + v < p → get_or seen s false ≡ true → get_or seen (get_or table (s * settings + v) 0) false ≡ true

  pub scan_more : {seen : List Bool} (p : ℕ) → (get_or seen (p / settings) false ≡ true → get_or seen (get_or table p 0) false ≡ true) → Scanned seen p → Scanned seen (p + 1)
  scan_more {seen} p here c =
      record {
        size = c.size;
        sound = c.sound;
        begun = c.begun;
        closed = λ s v h l e. ⊎_elim (λ q. at s v h q e) (λ l. c.closed s v h l e) (eq-or-lt_of_le (le_of_suc-le-suc (rw add-one at l)));
      }
    where
      at : (s v : ℕ) → v < settings → s * settings + v ≡ p → get_or seen s false ≡ true → get_or seen (get_or table (s * settings + v) 0) false ≡ true
      at s v h q e =
          let d = ap (◌/ settings) (sym q) ∙ digits_div s h in
          ap (λ k. get_or seen (get_or table k 0) false) q ∙ here (ap (λ k. get_or seen k false) d ∙ e)

  pub scan_add : {seen : List Bool} (p : ℕ) → 0 < settings → get_or table p 0 < most_states → get_or seen (p / settings) false ≡ true → Scanned seen p → Scanned (set seen (get_or table p 0) true) 0
  scan_add {seen} p z m up c =
      record {
        size = length-set seen (get_or table p 0) true ∙ c.size;
        sound = λ s. set_up (Reached (table_moves table settings) settings initial) seen (get_or table p 0) s new (c.sound s);
        begun = set_keeps seen (get_or table p 0) initial (omega (arith, c.size)) c.begun;
        closed = λ s v h l. absurd (not-suc-le-zero l);
      }
    where
      new : Reached (table_moves table settings) settings initial (get_or table p 0)
      new = step (p % settings) (c.sound (p / settings) up) (mod-lt p z) (ap (λ k. get_or table k 0) (div-add-mod' p settings))

  pub scan_end : {seen : List Bool} {states p : ℕ} → Fit table states settings initial → states * settings ≤ p → Scanned seen p → (s : ℕ) → s < states → Decides (Reached (table_moves table settings) settings initial s) (get_or seen s false)
  scan_end {seen} {states} {p} fit l c s h = record { holds = c.sound s; fails = λ e r. true≢false (sym (all r).1 ∙ e) }
    where
      all : {t : ℕ} → Reached (table_moves table settings) settings initial t → (t < states) × (get_or seen t false ≡ true)
      all start = (fit.begins, c.begun)
      all (step {s} v r h e) =
          let q = all r in
          let k = digits_lt q.0 h in
          subst (λ t. (t < states) × (get_or seen t false ≡ true)) e (fit.inside _ k, c.closed s v h (lt_of_lt_of_le k l) q.1)

down : (n s : ℕ) → get_or (replicate n false) s false ≡ false
down zero s = refl
down (suc n) zero = refl
down (suc n) (suc s) = down n s

pub scan_start : (table : List ℕ) (settings initial : ℕ) → initial < most_states → Scanned table settings initial (set (replicate most_states false) initial true) 0
scan_start table settings initial h =
    record {
      size = length-set (replicate most_states false) initial true;
      sound = λ s. set_up (Reached (table_moves table settings) settings initial) (replicate most_states false) initial s start (λ e. absurd (true≢false (sym e ∙ down most_states s)));
      begun = get_or-set_same (replicate most_states false) initial true false h;
      closed = λ s v h l. absurd (not-suc-le-zero l);
    }

-- a new flag starts the scan again, and yet there is less to do
pub restarts : (a b total p : ℕ) → a ≡ suc b → p < total → b * (total + 1) + (total - 0) < a * (total + 1) + (total - p)
restarts a b total p e h = omega (arith, ap (◌* (total + 1)) e ∙ suc-mul b (total + 1))
