-- The multiple changes of a run are those of its trail, and a run that visits a couple before its last step has a shorter trail to it
-- with no more of them: by induction on the run.
use mathlib.Core.Path.{◌≡◌, refl, sym, ap, ◌∙◌}
use mathlib.Core.Logic.{◌⊎◌, ⊎_elim, inl, inr}
use mathlib.Core.List.{List, [], ◌∷◌}
use Prim.Native.Nat.{ℕ, suc, ◌+◌, ◌%◌, ◌≤◌, ◌<◌}
use native.Mathlib.Nat.{le_refl}
use native.Mathlib.Omega.{arith}
use lib.ListN.{length}
use Rattle.machine.specs.Lists.{In}
use Rattle.machine.specs.Runs.{Machine, size, couple, move, Sound, Starts, Goes, visits_from, Visitor}
use Rattle.machine.specs.Shortest.{rests_from, rests}
use Rattle.machine.specs.inner.Trails.{Steps, Trail}
use Rattle.machine.proofs.Couples.{couple_setting, moves}
use Rattle.machine.proofs.Trails.{last_of, back, along, AtLast, length_rests, length_back, back_rests, stepped, trail_run}
use Rattle.several.specs.Several.{multiples_from, multiples}
use Rattle.several.specs.inner.Lightest.{multiples_along}

-- a trail to couple c of fewer than k changes, a multiple ones at most
pub record Earlier (m : Machine) (c k a : ℕ) : Type 0 where
  pub path : List ℕ
  pub trail : Trail m c path
  pub shorter : length path < k
  pub lighter : multiples_along m c path ≤ a

module _ (m : Machine) where
  multiples_back : (ps : List ℕ) (c : ℕ) (vs : List ℕ) → multiples m (back m ps (c % size m ∷ vs)) ≡ multiples_along m c ps + multiples_from m (c % size m) vs
  multiples_back [] c vs = omega arith
  multiples_back (p ∷ ps) c vs = omega (arith, multiples_back ps p (c % size m ∷ vs))

  pub multiples_along_lem : (ps : List ℕ) (c : ℕ) → multiples m (along m ps c) ≡ multiples_along m c ps
  multiples_along_lem ps c = omega (arith, multiples_back ps c [])

module _ {m : Machine} (ok : Sound m) where
  now : (cs : List ℕ) (s v w : ℕ) (ws : List ℕ) (c : ℕ) → v < size m → Trail m c (couple m s v ∷ cs) → c % size m ≡ w
      → AtLast m c (rests_from m cs s v (w ∷ ws)) (last_of w ws) ⊎ Earlier m c (length cs + length (w ∷ ws)) (multiples_along m (couple m s v) cs + multiples_from m v (w ∷ ws))
  now cs s v w [] c h t e = inl (record { trail = t; setting = e })
  now cs s v w (x ∷ ws) c h t e = inr (record {
    path = couple m s v ∷ cs;
    trail = t;
    shorter = omega arith;
    lighter = rw (e, couple_setting m s h) (omega arith);
  })

  forward : (cs : List ℕ) (s v : ℕ) (ws : List ℕ) → s < m.states → v < size m → move m s v ≡ s → Trail m (couple m s v) cs → Goes m v ws
      → (c : ℕ) → In c (visits_from m s ws) → AtLast m c (rests_from m cs s v ws) (last_of v ws) ⊎ Earlier m c (length cs + length ws) (multiples_along m (couple m s v) cs + multiples_from m v ws)
  forward cs s v [] h k r t g c i = absurd i
  forward cs s v (w ∷ ws) h k r t g c i = ⊎_elim (λ e. here (inl e)) (⊎_elim (λ e. here (inr e)) (λ j. ⊎_elim inl
      (λ x. inr (record { path = x.path; trail = x.trail; shorter = omega (arith, x.shorter); lighter = light x.lighter }))
      (forward (couple m s v ∷ cs) (move m s w) w ws (moves ok s w h g.0.below) g.0.below (ok.calm s w h g.0.below) (t, step (inr refl)) g.1 c j))) i
    where
      step : {d : ℕ} → (d ≡ couple m s w) ⊎ (d ≡ couple m (move m s w) w) → Steps m (couple m s v) d
      step e = record { state = s; from = v; to = w; below = k; here = refl; rests = r; change = g.0; visits = e }

      here : (c ≡ couple m s w) ⊎ (c ≡ couple m (move m s w) w)
          → AtLast m c (rests_from m cs s v (w ∷ ws)) (last_of w ws) ⊎ Earlier m c (length cs + length (w ∷ ws)) (multiples_along m (couple m s v) cs + multiples_from m v (w ∷ ws))
      here e = now cs s v w ws c k (t, step e) (stepped (step e))

      light : {x : ℕ} → x ≤ multiples_along m (couple m (move m s w) w) (couple m s v ∷ cs) + multiples_from m w ws → x ≤ multiples_along m (couple m s v) cs + multiples_from m v (w ∷ ws)
      light {x} l = omega (arith, rw (couple_setting m s k, couple_setting m (move m s w) g.0.below) at l)

  at_start : (v : ℕ) (vs : List ℕ) (c : ℕ) → Starts m v → c ≡ couple m m.initial v
      → AtLast m c (rests m (v ∷ vs)) (last_of v vs) ⊎ Earlier m c (length vs) (multiples m (v ∷ vs))
  at_start v [] c h e = inl (record { trail = (v, h, e); setting = ap (λ (y : ℕ). y % size m) e ∙ couple_setting m _ h.below })
  at_start v (w ∷ vs) c h e = inr (record { path = []; trail = (v, h, e); shorter = omega arith; lighter = omega arith })

  visited_trail : (c v : ℕ) (vs : List ℕ) → Visitor m c (v ∷ vs) → AtLast m c (rests m (v ∷ vs)) (last_of v vs) ⊎ Earlier m c (length vs) (multiples m (v ∷ vs))
  visited_trail c v vs x = ⊎_elim
      (at_start v vs c x.run.0)
      (λ i. ⊎_elim inl (λ y. inr (record { path = y.path; trail = y.trail; shorter = omega (arith, y.shorter); lighter = omega (arith, y.lighter) }))
      (forward [] m.initial v vs ok.begins x.run.0.below x.run.0.rests (v, x.run.0, refl) x.run.1 c i))
      x.sees

  -- a run is told by the trail to what it visits last
  last_along : (c v : ℕ) (vs : List ℕ) → Visitor m c (v ∷ vs) → AtLast m c (rests m (v ∷ vs)) (last_of v vs) → v ∷ vs ≡ along m (rests m (v ∷ vs)) c
  last_along c v vs x y =
      sym (back_rests m [] m.initial v vs x.run.0.below x.run.1) ∙ ap (λ (w : ℕ). back m (rests m (v ∷ vs)) (w ∷ [])) (sym y.setting)

  -- a trail with no more changes than the run has, and no more multiple ones
  pub some_trail : (c : ℕ) (vs : List ℕ) → Visitor m c vs → (ps : List ℕ) × Trail m c ps × (suc (length ps) ≤ length vs) × (multiples_along m c ps ≤ multiples m vs)
  some_trail c [] x = absurd x.run
  some_trail c (v ∷ vs) x = ⊎_elim
      (λ y. (
        rests m (v ∷ vs),
        y.trail,
        omega (arith, length_rests m [] m.initial v vs),
        rw (← multiples_along_lem m (rests m (v ∷ vs)) c, ← last_along c v vs x y) (le_refl _),
      ))
      (λ y. (y.path, y.trail, omega (arith, y.shorter), y.lighter))
      (visited_trail c v vs x)

  -- a run that visits c, of which none with as few multiple changes is shorter
  pub shortest_trail : (c : ℕ) (vs : List ℕ) → Visitor m c vs → ((ws : List ℕ) → Visitor m c ws → multiples m ws ≤ multiples m vs → length vs ≤ length ws)
      → Trail m c (rests m vs) × (vs ≡ along m (rests m vs) c) × (length vs ≡ suc (length (rests m vs)))
  shortest_trail c [] x few = absurd x.run
  shortest_trail c (v ∷ vs) x few = ⊎_elim
      (λ y. (y.trail, last_along c v vs x y, omega (arith, length_rests m [] m.initial v vs)))
      (λ y. absurd (omega (
        arith,
        few _ (trail_run c y.path y.trail).0 (rw (multiples_along_lem m y.path c) y.lighter),
        y.shorter,
        length_back m y.path (c % size m ∷ []),
      )))
      (visited_trail c v vs x)
