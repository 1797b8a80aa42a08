-- A run by its resting couples, from the last change back to the start: each run has such a trail and each trail is that of a run, by
-- induction on either.
use mathlib.Core.Path.{◌≡◌, refl, sym, ap, ap₂, subst, ◌∙◌}
use mathlib.Core.Logic.{◌⊎◌, ⊎_elim, inl, inr}
use mathlib.Core.List.{List, [], ◌∷◌}
use Prim.Native.Nat.{ℕ, ◌+◌, ◌%◌, ◌<◌}
use native.Mathlib.Omega.{arith}
use lib.ListN.{length}
use Rattle.machine.specs.Lists.{In}
use Rattle.machine.specs.Runs.{Machine, size, couple, move, Sound, Starts, Changes, Goes, Run, visits_from, visits, Visitor}
use Rattle.machine.specs.Shortest.{rests_from, rests}
use Rattle.machine.specs.inner.Trails.{Steps, Trail}
use Rattle.machine.proofs.Couples.{couple_same, couple_setting, moves}

abbrev pub last_of : ℕ → List ℕ → ℕ
last_of v [] = v
last_of v (w ∷ ws) = last_of w ws

-- the settings of resting couples, put in front of the list
abbrev pub back : Machine → List ℕ → List ℕ → List ℕ
back m [] vs = vs
back m (p ∷ ps) vs = back m ps (p % size m ∷ vs)

-- the run that a trail to couple c tells
abbrev pub along : Machine → List ℕ → ℕ → List ℕ
along m ps c = back m ps (c % size m ∷ [])

-- visited at the last step
pub record AtLast (m : Machine) (c : ℕ) (ps : List ℕ) (v : ℕ) : Type 0 where
  pub trail : Trail m c ps
  pub setting : c % size m ≡ v

-- visited with fewer than k changes
pub record Earlier (m : Machine) (c k : ℕ) : Type 0 where
  pub path : List ℕ
  pub trail : Trail m c path
  pub shorter : length path < k

module _ (m : Machine) where
  pub length_rests : (cs : List ℕ) (s v : ℕ) (ws : List ℕ) → length (rests_from m cs s v ws) ≡ length cs + length ws
  length_rests cs s v [] = omega arith
  length_rests cs s v (w ∷ ws) = omega (arith, length_rests (couple m s v ∷ cs) (move m s w) w ws)

  pub length_back : (ps vs : List ℕ) → length (back m ps vs) ≡ length ps + length vs
  length_back [] vs = omega arith
  length_back (p ∷ ps) vs = omega (arith, length_back ps (p % size m ∷ vs))

  -- a run is told by its resting couples and its last setting
  pub back_rests : (cs : List ℕ) (s v : ℕ) (ws : List ℕ) → v < size m → Goes m v ws → back m (rests_from m cs s v ws) (last_of v ws ∷ []) ≡ back m cs (v ∷ ws)
  back_rests cs s v [] h g = refl
  back_rests cs s v (w ∷ ws) h g =
      back_rests (couple m s v ∷ cs) (move m s w) w ws g.0.below g.1 ∙ ap (λ (x : ℕ). back m cs (x ∷ w ∷ ws)) (couple_setting m s h)

-- the setting of a couple that is visited
pub stepped : {m : Machine} {p c : ℕ} (x : Steps m p c) → c % size m ≡ x.to
stepped {m} {p} {c} x = ⊎_elim
    (λ e. ap (λ (y : ℕ). y % size m) e ∙ couple_setting m _ x.change.below)
    (λ e. ap (λ (y : ℕ). y % size m) e ∙ couple_setting m _ x.change.below)
    x.visits

-- forwards
module _ {m : Machine} (ok : Sound m) where
  now : (cs : List ℕ) (s v w : ℕ) (ws : List ℕ) (c : ℕ) → Trail m c (couple m s v ∷ cs) → c % size m ≡ w
      → AtLast m c (rests_from m cs s v (w ∷ ws)) (last_of w ws) ⊎ Earlier m c (length cs + length (w ∷ ws))
  now cs s v w [] c t e = inl (record { trail = t; setting = e })
  now cs s v w (x ∷ ws) c t e = inr (record { path = couple m s v ∷ cs; trail = t; shorter = omega arith })

  forward : (cs : List ℕ) (s v : ℕ) (ws : List ℕ) → s < m.states → v < size m → move m s v ≡ s → Trail m (couple m s v) cs → Goes m v ws
      → (c : ℕ) → In c (visits_from m s ws) → AtLast m c (rests_from m cs s v ws) (last_of v ws) ⊎ Earlier m c (length cs + length ws)
  forward cs s v [] h k r t g c i = absurd i
  forward cs s v (w ∷ ws) h k r t g c i = ⊎_elim (λ e. here (inl e)) (⊎_elim (λ e. here (inr e)) (λ j. ⊎_elim inl
      (λ x. inr (record { path = x.path; trail = x.trail; shorter = omega (arith, x.shorter) }))
      (forward (couple m s v ∷ cs) (move m s w) w ws (moves ok s w h g.0.below) g.0.below (ok.calm s w h g.0.below) (t, step (inr refl)) g.1 c j))) i
    where
      step : {d : ℕ} → (d ≡ couple m s w) ⊎ (d ≡ couple m (move m s w) w) → Steps m (couple m s v) d
      step e = record { state = s; from = v; to = w; below = k; here = refl; rests = r; change = g.0; visits = e }

      here : (c ≡ couple m s w) ⊎ (c ≡ couple m (move m s w) w) → AtLast m c (rests_from m cs s v (w ∷ ws)) (last_of w ws) ⊎ Earlier m c (length cs + length (w ∷ ws))
      here e = now cs s v w ws c (t, step e) (stepped (step e))

  at_start : (v : ℕ) (vs : List ℕ) (c : ℕ) → Starts m v → c ≡ couple m m.initial v
      → AtLast m c (rests m (v ∷ vs)) (last_of v vs) ⊎ Earlier m c (length vs)
  at_start v [] c h e = inl (record { trail = (v, h, e); setting = ap (λ (y : ℕ). y % size m) e ∙ couple_setting m _ h.below })
  at_start v (w ∷ vs) c h e = inr (record { path = []; trail = (v, h, e); shorter = omega arith })

  pub visited_trail : (c v : ℕ) (vs : List ℕ) → Visitor m c (v ∷ vs) → AtLast m c (rests m (v ∷ vs)) (last_of v vs) ⊎ Earlier m c (length vs)
  visited_trail c v vs x = ⊎_elim
      (at_start v vs c x.run.0)
      (λ i. ⊎_elim inl (λ y. inr (record { path = y.path; trail = y.trail; shorter = omega (arith, y.shorter) }))
      (forward [] m.initial v vs ok.begins x.run.0.below x.run.0.rests (v, x.run.0, refl) x.run.1 c i))
      x.sees

-- and back
pub record Unrolled (m : Machine) (ps : List ℕ) (s v : ℕ) (ws : List ℕ) : Type 0 where
  pub run : Run m (back m ps (v ∷ ws))
  pub sees : (c : ℕ) → In c (visits_from m s ws) → In c (visits m (back m ps (v ∷ ws)))
  pub same : rests m (back m ps (v ∷ ws)) ≡ rests_from m ps s v ws

module _ {m : Machine} where
  -- a resting couple that is visited by a change is the one after the change
  pub settled : {p : ℕ} (s v : ℕ) → v < size m → move m s v ≡ s → (x : Steps m p (couple m s v)) → (move m x.state v ≡ s) × (x.to ≡ v)
  settled s v h r x = ⊎_elim
      (λ e. let (f, g) = couple_same m s x.state h x.change.below e in (rw (← f) r, sym g))
      (λ e. let (f, g) = couple_same m s (move m x.state x.to) h x.change.below e in (rw g (sym f), sym g))
      x.visits

  backward : (ps : List ℕ) (s v : ℕ) (ws : List ℕ) → v < size m → move m s v ≡ s → Trail m (couple m s v) ps → Goes m v ws → Unrolled m ps s v ws
  backward [] s v ws h r t g =
      let (e, f) = couple_same m s m.initial h t.1.below t.2 in
      record {
        run = (subst (Starts m) (sym f) t.1, g);
        sees = λ c i. inr (subst (λ (x : ℕ). In c (visits_from m x ws)) e i);
        same = ap (λ (x : ℕ). rests_from m [] x v ws) (sym e);
      }
  backward (p ∷ ps) s v ws h r t g =
      let x = t.1 in
      let (f, q) = settled s v h r x in
      let e : p % size m ≡ x.from = ap (λ (y : ℕ). y % size m) x.here ∙ couple_setting m _ x.below in
      let u = backward ps x.state x.from (v ∷ ws) x.below x.rests (subst (λ (c : ℕ). Trail m c ps) x.here t.0) (subst (λ (y : ℕ). Changes m x.from y) q x.change, g) in
      record {
        run = subst (λ (y : ℕ). Run m (back m ps (y ∷ v ∷ ws))) (sym e) u.run;
        sees = λ c i. subst (λ (y : ℕ). In c (visits m (back m ps (y ∷ v ∷ ws)))) (sym e) (u.sees c (inr (inr (subst (λ (y : ℕ). In c (visits_from m y ws)) (sym f) i))));
        same = ap (λ (y : ℕ). rests m (back m ps (y ∷ v ∷ ws))) e ∙ u.same ∙ ap₂ (λ (a b : ℕ). rests_from m (a ∷ ps) b v ws) (sym x.here) f;
      }

  -- a trail is a run
  pub trail_run : (c : ℕ) (ps : List ℕ) → Trail m c ps → Visitor m c (along m ps c) × (rests m (along m ps c) ≡ ps)
  trail_run c [] t =
      let e : c % size m ≡ t.0 = ap (λ (y : ℕ). y % size m) t.2 ∙ couple_setting m _ t.1.below in
      (record { run = (subst (Starts m) (sym e) t.1, tt); sees = inl (rw e t.2) }, refl)
  trail_run c (p ∷ ps) t =
      let x = t.1 in
      let e : p % size m ≡ x.from = ap (λ (y : ℕ). y % size m) x.here ∙ couple_setting m _ x.below in
      let u = backward ps x.state x.from (x.to ∷ []) x.below x.rests (subst (λ (d : ℕ). Trail m d ps) x.here t.0) (x.change, tt) in
      let same : back m ps (x.from ∷ x.to ∷ []) ≡ along m (p ∷ ps) c = ap₂ (λ (a b : ℕ). back m ps (a ∷ b ∷ [])) (sym e) (sym (stepped x)) in
      let seen : In c (visits_from m x.state (x.to ∷ [])) = ⊎_elim inl (λ q. inr (inl q)) x.visits in (
        record { run = subst (Run m) same u.run; sees = subst (λ vs. In c (visits m vs)) same (u.sees c seen) },
        ap (rests m) (sym same) ∙ u.same ∙ ap (λ (a : ℕ). a ∷ ps) (sym x.here),
      )
