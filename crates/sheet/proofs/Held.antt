-- The stored plan and the stored list are one each. A job that writes one of them whole or not at all refuses by 16, or leaves it at the
-- front of its buffer: the answer's place and the buffer speak of the same bytes.
use mathlib.Core.Path.{◌≡◌, refl, sym, ap, subst, ◌∙◌}
use mathlib.Core.List.{List, [], ◌∷◌}
use Prim.Native.Nat.{ℕ, ◌-◌, ◌≤◌, ◌<◌}
use native.Mathlib.Omega.{arith}
use lib.ListN.{length, take, drop, length-take}
use lib.Seq.{take_at}
use Rattle.verdict.specs.Checks.{check, Then, refused, next, Judged}
use Rattle.verdict.specs.Buffers.{Written}
use Rattle.verdict.specs.declared.Answer.{Answer}
use Rattle.machine.specs.Runs.{Machine, couples, Sound}
use Rattle.machine.specs.Plans.{stored}
use Rattle.machine.proofs.Plans.{plan_unique}
use Rattle.several.specs.Lists.{MultiList, stored_list}
use Rattle.several.proofs.Lists.{list_unique}
use Rattle.several.proofs.Single.{singly_sound}
use Rattle.plan.specs.Planning.{PlanBytes, ShortOf, WholeDone}
use Rattle.plan.specs.Multi.{ListBytes}

pub plan_once : {m : Machine} → Sound m → (w u : List ℕ) → PlanBytes m w → PlanBytes m u → w ≡ u
plan_once ok w u (p, x, e) (q, y, f) = e ∙ ap stored (plan_unique ok x y) ∙ sym f

pub list_once : {m : Machine} → Sound m → (w u : List ℕ) → ListBytes m w → ListBytes m u → w ≡ u
list_once {m} ok w u (p, l, x, y, e) (q, k, z, v, f) =
    let same = plan_unique (singly_sound ok) z x in
    e ∙ ap (stored_list m) (list_unique ok y (subst (λ (r : List (List ℕ)). MultiList m r (couples m) k) same v)) ∙ sym f

module _ (Is : List ℕ → Type 0) (one : (w u : List ℕ) → Is w → Is u → w ≡ u) {room : ℕ} where
  -- bytes that fit are not refused, and those that do not fit are refused in one way
  pub short_none : {p : ℕ} {w : List ℕ} → Is w → length w ≤ room → ShortOf Is room p → ⊥
  short_none {w = w} i h (u, j, s) = let l = s.1 in omega (arith, ap length (one w u i j))

  pub short_once : {p q : ℕ} → ShortOf Is room p → ShortOf Is room q → p ≡ q
  short_once (w, i, s) (u, j, t) = s.0 ∙ ap length (one w u i j) ∙ sym t.0

  module _ {a : Answer} (v : Judged (check 16 (ShortOf Is room) ∷ []) (WholeDone Is) a) where
    pub sixteen : (a.number ≡ 0 → ⊥) → (a.number ≡ 16) × ShortOf Is room a.place
    sixteen n = by v.verdict
      where
        by : Then (ShortOf Is room) 16 (WholeDone Is a) a → (a.number ≡ 16) × ShortOf Is room a.place
        by (refused l e) = (e, l.here)
        by (next o d) = absurd (n d.number)

    module _ (e : a.number ≡ 0) {before after : List ℕ} (left : Written a.number Is before after) where
      held : Is (take a.place after) × (length (take a.place after) ≡ a.place) × (a.place ≤ room)
      held = by v.verdict
        where
          by : Then (ShortOf Is room) 16 (WholeDone Is a) a → Is (take a.place after) × (length (take a.place after) ≡ a.place) × (a.place ≤ room)
          by (refused l n) = absurd (omega arith)
          by (next o d) =
              let (w, i, f) = left.done e in
              let n : length w ≡ a.place = ap length (one w d.bytes i d.is) ∙ sym d.place in
              let g : take a.place after ≡ w = ap (take a.place) f.is ∙ take_at w (drop (length w) before) a.place n in
              let h : room < length d.bytes → ⊥ = λ l. o.nowhere _ (d.bytes, d.is, (refl, l)) in
              (subst Is (sym g) i, ap length g ∙ n, omega (arith, d.place))

      pub reach : a.place ≤ length after
      reach = omega (arith, held.1, length-take a.place after)

      pub front : Is (take (a.place - 0) after)
      front = let n : a.place ≡ a.place - 0 = omega arith in subst (λ (k : ℕ). Is (take k after)) n held.0

      pub fits : length (take (a.place - 0) after) ≤ room
      fits = omega (arith, length-take (a.place - 0) after, held.2)
