-- A head on its way over the queue: it begins with nothing expanded, goes on over a couple that it brings to the next weight, and stops at
-- another or at the end.
use mathlib.Core.Path.{◌≡◌, sym, ap, subst, ◌∙◌}
use mathlib.Core.Logic.{◌⊎◌, inl, inr, ⊎_elim}
use mathlib.Core.List.{List}
use Prim.Native.Nat.{ℕ, ◌+◌, ◌≤◌, ◌<◌}
use native.Mathlib.Omega.{arith}
use lib.ListN.{get_or, length}
use Rattle.machine.specs.Limits.{most_couples}
use Rattle.machine.specs.Runs.{Machine}
use Rattle.machine.proofs.Order.{equal_or}
use Rattle.machine.proofs.Small.{pigeons}
use Rattle.marking.specs.declared.changes.Changes.{Changes}
use Rattle.marking.specs.inner.Queue.{Between, Room, Pushed}
use Rattle.marking.proofs.Spreading.{spread_one, spread_then, spread_as, spread_kept}
use Rattle.marking.specs.inner.Engine.{weight_of, ByRest, Spreading, Going, SpreadAs}

pub room_full : {R P Q : List ℕ} {tail : ℕ} → Room R P Q tail → tail ≤ length R
room_full {R} {P} {Q} {tail} x = pigeons (length R) tail (λ i. get_or Q i 0) x.low x.once

module _ (m : Machine) {R P Q : List ℕ} {r a e tail : ℕ} (x : Spreading m R P Q r a e tail) (many : Changes) where
  module _ {R' P' Q' : List ℕ} {h t : ℕ} (g : Going m many r a e R P Q tail R' P' Q' h t) (l : h < e) where
    -- the couple at the head
    pub head_in : (h < length Q') × (h < most_couples) × (get_or Q' h 0 < length R') × (h < t)
    head_in =
        let y = g.spread.room in
        let f = room_full y in
        let u : h < t = omega (arith, x.to, g.spread.more) in
        (omega (arith, y.long), omega (arith, y.few), y.low h u, u)

    head_weight : get_or R' (get_or Q' h 0) 0 ≡ get_or R (get_or Q h 0) 0
    head_weight = spread_kept x.room g.spread h (omega (arith, x.to))

    pub going_more : {R'' P'' Q'' : List ℕ} {t' : ℕ} → get_or R' (get_or Q' h 0) 0 + weight_of many ≡ r
        → Pushed (ByRest many m (get_or Q' h 0)) r (get_or Q' h 0) R' P' Q' t R'' P'' Q'' t' → Going m many r a e R P Q tail R'' P'' Q'' (h + 1) t'
    going_more d p = record {
      spread = spread_as to of (spread_then x.small g.spread (spread_one p));
      from = omega (arith, g.from);
      to = omega arith;
      over = λ i u v. ⊎_elim
          (λ (f : i ≡ h). subst (λ (j : ℕ). get_or R (get_or Q j 0) 0 + weight_of many ≡ r) (sym f) (rw (← head_weight) d))
          (λ (f : i ≡ h → ⊥). g.over i u (omega arith))
          (equal_or i h);
    }
      where
        kept : get_or Q' h 0 ≡ get_or Q h 0
        kept = g.spread.kept h (omega (arith, x.to))

        to : (q c : ℕ) → (Between Q a h q × ByRest many m q c) ⊎ ((q ≡ get_or Q' h 0) × ByRest many m (get_or Q' h 0) c) → Between Q a (h + 1) q × ByRest many m q c
        to q c (inl ((j, u, v, w), b)) = ((j, u, omega arith, w), b)
        to q c (inr (f, b)) = ((h, g.from, omega arith, sym kept ∙ sym f), subst (λ (p : ℕ). ByRest many m p c) (sym f) b)

        of : (q c : ℕ) → Between Q a (h + 1) q × ByRest many m q c → (Between Q a h q × ByRest many m q c) ⊎ ((q ≡ get_or Q' h 0) × ByRest many m (get_or Q' h 0) c)
        of q c ((j, u, v, w), b) = ⊎_elim
            (λ (f : j ≡ h). let s : q ≡ get_or Q' h 0 = sym w ∙ ap (λ (i : ℕ). get_or Q i 0) f ∙ sym kept in inr (s, subst (λ (p : ℕ). ByRest many m p c) s b))
            (λ (f : j ≡ h → ⊥). inl ((j, u, omega arith, w), b))
            (equal_or j h)

pub going_end : {m : Machine} {R P Q R' P' Q' : List ℕ} {r a e tail h t : ℕ} {many : Changes} → Going m many r a e R P Q tail R' P' Q' h t → e ≤ h → SpreadAs m many r a e R P Q tail R' P' Q' h t
going_end g l = record { going = g; stop = λ k f. omega arith }
