-- The settings along a chain of parents visit what the chain passes through: a setting more at the end visits the two couples of its
-- change, and a resting couple is where the settings of its chain end.
use mathlib.Core.Path.{◌≡◌, refl, sym, ap, ap₂, ◌∙◌}
use mathlib.Core.Logic.{⊎_elim}
use mathlib.Core.List.{List, [], ◌∷◌, ◌++◌}
use Prim.Native.Nat.{ℕ, zero, suc, ◌/◌, ◌%◌, ◌≤◌, ◌<◌}
use native.Mathlib.Nat.{div-add-mod'}
use native.Mathlib.Omega.{arith}
use lib.ListN.{length, get_or}
use lib.Arith.{digits_div}
use Rattle.machine.specs.Limits.{most_couples}
use Rattle.machine.specs.Runs.{Machine, size, couples, couple, move, Sound, visits, visits_from}
use Rattle.machine.specs.inner.Trails.{Steps}
use Rattle.machine.proofs.Trails.{stepped}
use Rattle.several.specs.Weights.{WeightOrNone, ParentOrNone}
use Rattle.several.proofs.Listed.{Away, away_starts, away_back}
use Rattle.plan.specs.inner.Writing.{settings}
use Rattle.plan.proofs.Chains.{settings_none, settings_more, length_settings}

-- the weights and parents of a sound machine that is not too large
pub record Told (m : Machine) (W P : List ℕ) : Type 0 where
  pub sound : Sound m
  pub few : couples m ≤ most_couples
  pub weight : (c : ℕ) → c < couples m → WeightOrNone m c (get_or W c 0)
  pub parent : (c : ℕ) → c < couples m → ParentOrNone m c (get_or P c 0)

-- the state in which settings end
abbrev end_from : Machine → ℕ → List ℕ → ℕ
end_from m s [] = s
end_from m s (w ∷ ws) = end_from m (move m s w) ws

abbrev ends : Machine → List ℕ → ℕ
ends m [] = 0
ends m (v ∷ vs) = end_from m m.initial vs

-- one setting more
module _ (m : Machine) where
  end_from_lem : (s w : ℕ) (ws : List ℕ) → end_from m s (ws ++ (w ∷ [])) ≡ move m (end_from m s ws) w
  end_from_lem s w [] = refl
  end_from_lem s w (x ∷ ws) = end_from_lem (move m s x) w ws

  ends_more : (w : ℕ) (vs : List ℕ) → 0 < length vs → ends m (vs ++ (w ∷ [])) ≡ move m (ends m vs) w
  ends_more w [] h = absurd (omega arith)
  ends_more w (v ∷ vs) h = end_from_lem m.initial w vs

  visits_from_lem : (s w : ℕ) (ws : List ℕ)
      → visits_from m s (ws ++ (w ∷ [])) ≡ visits_from m s ws ++ (couple m (end_from m s ws) w ∷ couple m (move m (end_from m s ws) w) w ∷ [])
  visits_from_lem s w [] = refl
  visits_from_lem s w (x ∷ ws) = ap (λ (l : List ℕ). couple m s x ∷ couple m (move m s x) x ∷ l) (visits_from_lem (move m s x) w ws)

  visits_more : (w : ℕ) (vs : List ℕ) → 0 < length vs
      → visits m (vs ++ (w ∷ [])) ≡ visits m vs ++ (couple m (ends m vs) w ∷ couple m (move m (ends m vs) w) w ∷ [])
  visits_more w [] h = absurd (omega arith)
  visits_more w (v ∷ vs) h = ap (λ (l : List ℕ). couple m m.initial v ∷ l) (visits_from_lem m.initial w vs)

-- the state of a couple, by its number
state_is : (m : Machine) {c s v : ℕ} → c ≡ couple m s v → v < size m → c / size m ≡ s
state_is m {c} {s} {v} e h = ap (λ (k : ℕ). k / size m) e ∙ digits_div s h

-- a couple from which a change goes rests
rests_there : {m : Machine} {c p : ℕ} → Steps m p c → get_or m.table p 0 ≡ p / size m
rests_there {m} s = ap (λ (k : ℕ). get_or m.table k 0) s.here ∙ s.rests ∙ sym (state_is m s.here s.below)

-- without changes the couple is the initial state's
first : {m : Machine} {c : ℕ} → Away m c 0 → c / size m ≡ m.initial
first {m} y = let (v, s, e) = away_starts y in state_is m e s.below

module _ {m : Machine} {W P : List ℕ} (x : Told m W P) where
  abbrev chain : ℕ → ℕ → List ℕ
  chain c n = settings P (size m) c n

  chain_some : (c n : ℕ) → 0 < length (chain c (suc n))
  chain_some c n = rw (length_settings P (size m) (suc n) c) (omega arith)

  -- one couple back along the chain
  pub chain_back : (c r : ℕ) → Away m c (suc r) → Steps m (get_or P c 0) c × Away m (get_or P c 0) r
  chain_back = away_back x.sound x.few W P x.weight x.parent

  -- the settings of a resting couple's chain end in its state
  ends_at : (r c : ℕ) → Away m c r → get_or m.table c 0 ≡ c / size m → ends m (chain c (suc r)) ≡ c / size m
  ends_at zero c y q = rw (settings_more, settings_none) (sym (first y))
  ends_at (suc r) c y q =
      let p = get_or P c 0 in
      let (s, b) = chain_back c r y in
      let i = ends_at r p b (rests_there s) in
      rw (settings_more P (size m) c (suc r))
      (ends_more m (c % size m) (chain p (suc r)) (chain_some p r)
      ∙ ap₂ (λ (j k : ℕ). move m j k) (i ∙ state_is m s.here s.below) (stepped s)
      ∙ ⊎_elim
      (λ (e : c ≡ couple m s.state s.to). sym (ap (λ (k : ℕ). get_or m.table k 0) e) ∙ q)
      (λ e. sym (state_is m e s.change.below))
      s.visits)

  -- what the first setting visits
  pub visits_first : (c : ℕ) → Away m c 0 → visits m (chain c 1) ≡ c ∷ []
  visits_first c y =
      rw (settings_more, settings_none) (ap (λ (k : ℕ). k ∷ []) (ap (λ (s : ℕ). couple m s (c % size m)) (sym (first y)) ∙ div-add-mod' c (size m)))

  -- and the last change
  pub visits_last : (r c : ℕ) → Away m c (suc r)
      → let s = get_or P c 0 / size m in
      visits m (chain c (suc (suc r))) ≡ visits m (chain (get_or P c 0) (suc r)) ++ (couple m s (c % size m) ∷ couple m (move m s (c % size m)) (c % size m) ∷ [])
  visits_last r c y =
      let p = get_or P c 0 in
      let (s, b) = chain_back c r y in
      rw (settings_more P (size m) c (suc r), ← ends_at r p b (rests_there s)) (visits_more m (c % size m) (chain p (suc r)) (chain_some p r))
