-- The pass over the runs: what stays visits the same couples, none that stays is superfluous, and the outcome is one: by induction on
-- the runs gone through.
use mathlib.Core.Path.{◌≡◌, refl, sym, ap, subst, ◌∙◌}
use mathlib.Core.Logic.{◌⊎◌, ◌↔◌, ⊎_elim, inl, inr}
use mathlib.Core.List.{List, [], ◌∷◌, ◌++◌, append_assoc, head-eq_of_cons-eq, tail-eq_of_cons-eq}
use Prim.Native.Nat.{ℕ}
use native.Mathlib.Omega.{arith}
use lib.ListN.{length, length-append}
use Rattle.machine.specs.Lists.{In}
use Rattle.machine.specs.Runs.{Machine, visits}
use Rattle.machine.specs.Plans.{VisitedBy}
use Rattle.machine.proofs.Members.{in_front, in_back, in_either}
use Rattle.shorten.specs.Shortening.{Superfluous, Shortens, NoneSuperfluous}
use Rattle.shorten.specs.Shortening.Shortens.{ends, out, stays}

front_in : (kept p q : List (List ℕ)) → ((vs : List ℕ) → In vs p → In vs q) → (vs : List ℕ) → In vs (kept ++ p) → In vs (kept ++ q)
front_in kept p q f vs i = ⊎_elim (in_front vs kept q) (λ j. in_back vs kept q (f vs j)) (in_either vs kept p i)

-- more runs visit more
pub visited_by : (m : Machine) {c : ℕ} (p q : List (List ℕ)) → ((vs : List ℕ) → In vs p → In vs q) → VisitedBy m c p → VisitedBy m c q
visited_by m p q f (vs, i, j) = (vs, f vs i, j)

module _ {m : Machine} where
  superfluous_by : {vs : List ℕ} {p q : List (List ℕ)} → ((ws : List ℕ) → In ws p → In ws q) → Superfluous m vs p → Superfluous m vs q
  superfluous_by {p = p} {q} f s = record { elsewhere = λ c i. visited_by m p q f (s.elsewhere c i) }

  -- what stays was there
  pub left_in : {kept runs left : List (List ℕ)} → Shortens m kept runs left → (vs : List ℕ) → In vs left → In vs runs
  left_in ends vs i = absurd i
  left_in (out s x) vs i = inr (left_in x vs i)
  left_in (stays n x) vs i = ⊎_elim inl (λ j. inr (left_in x vs j)) i

  -- what visits a couple still does
  keeps : {kept runs left : List (List ℕ)} → Shortens m kept runs left → (c : ℕ) → VisitedBy m c (kept ++ runs) → VisitedBy m c (kept ++ left)
  keeps ends c v = v
  keeps {kept} (out {later = later} {left} {vs} s x) c (ws, i, j) = keeps x c (by (in_either ws kept (vs ∷ later) i))
    where
      by : In ws kept ⊎ In ws (vs ∷ later) → VisitedBy m c (kept ++ later)
      by (inl k) = (ws, in_front ws kept later k, j)
      by (inr (inl e)) = s.elsewhere c (subst (λ us. In c (visits m us)) e j)
      by (inr (inr k)) = (ws, in_back ws kept later k, j)
  keeps {kept} (stays {later = later} {left} {vs} n x) c v =
      subst (VisitedBy m c) (append_assoc kept (vs ∷ []) left) (keeps x c (subst (VisitedBy m c) (sym (append_assoc kept (vs ∷ []) later)) v))

  -- the runs left visit the same couples
  pub same_visits : {runs left : List (List ℕ)} → Shortens m [] runs left → (c : ℕ) → VisitedBy m c left ↔ VisitedBy m c runs
  same_visits {runs} {left} x c = (visited_by m left runs (left_in x), keeps x c)

  needed : {kept runs left : List (List ℕ)} → Shortens m kept runs left → (before after : List (List ℕ)) (vs : List ℕ) → left ≡ before ++ (vs ∷ after) → Superfluous m vs (kept ++ (before ++ after)) → ⊥
  needed ends before after vs e f = omega (arith, ap length e ∙ length-append before (vs ∷ after))
  needed (out s x) before after vs e f = needed x before after vs e f
  needed {kept} (stays {later = later} {left} n x) [] after vs e f =
      n (superfluous_by (front_in kept left later (left_in x)) (subst (λ us. Superfluous m us (kept ++ left)) (sym (head-eq_of_cons-eq e)) (subst (λ l. Superfluous m vs (kept ++ l)) (sym (tail-eq_of_cons-eq e)) f)))
  needed {kept} (stays {vs = ws} n x) (us ∷ before) after vs e f =
      needed x before after vs (tail-eq_of_cons-eq e)
      (subst (Superfluous m vs) (sym (append_assoc kept (ws ∷ []) (before ++ after))) (subst (λ l. Superfluous m vs (kept ++ (l ∷ before ++ after))) (sym (head-eq_of_cons-eq e)) f))

  -- no single run left is superfluous
  pub none_superfluous : {runs left : List (List ℕ)} → Shortens m [] runs left → NoneSuperfluous m left
  none_superfluous x before after vs e f = needed x before after vs e f

  -- the runs left are one list
  pub shortens_once : {kept runs left other : List (List ℕ)} → Shortens m kept runs left → Shortens m kept runs other → left ≡ other
  shortens_once ends ends = refl
  shortens_once (out s x) (out t y) = shortens_once x y
  shortens_once (out s x) (stays n y) = absurd (n s)
  shortens_once (stays n x) (out s y) = absurd (n s)
  shortens_once (stays {vs = vs} n x) (stays k y) = ap (λ (l : List (List ℕ)). vs ∷ l) (shortens_once x y)
