-- The board theorem: matching readings on every run of a plan that visits all marked couples, and equal moves at these. Both boards are
-- followed along a run; words that differ tell the states apart.
use mathlib.Core.Path.{◌≡◌, refl, sym, ap, subst, ◌∙◌}
use mathlib.Core.Logic.{◌↔◌, ⊎_elim, inl, inr}
use mathlib.Core.List.{List, [], ◌∷◌}
use Prim.Native.Nat.{ℕ, ◌*◌, ◌-◌, ◌<◌}
use native.Mathlib.Omega.{arith}
use lib.ListN.{length}
use Rattle.machine.specs.Lists.{In}
use Rattle.machine.specs.Runs.{Machine, size, couple, move, Sound, Goes, Run, visits_from, visits, Marked}
use Rattle.machine.specs.Boards.{Board, readings_from, readings, specified, Differ, Alike}
use Rattle.machine.proofs.Couples.{couple_same, moves}

abbrev pub first : List ℕ → ℕ
first [] = 0
first (x ∷ xs) = x

abbrev pub after : List ℕ → List ℕ
after [] = []
after (x ∷ xs) = xs

length_from : (b : Board) (s : ℕ) (ws : List ℕ) → length (readings_from b s ws) ≡ 2 * length ws
length_from b s [] = refl
length_from b s (w ∷ ws) = omega (arith, length_from b (b.moves (b.moves s w) w) ws)

-- L settings give 2 L - 1 readings, an empty run none
pub length_readings : (b : Board) (vs : List ℕ) → length (readings b vs) ≡ 2 * length vs - 1
length_readings b [] = refl
length_readings b (v ∷ vs) = omega (arith, length_from b (b.moves b.initial v) vs)

module _ {m : Machine} (ok : Sound m) {word : ℕ → ℕ} (differ : Differ m word) {b : Board} (like : Alike m word b) where
  -- the board's move is the table's at couple c
  abbrev pub Agrees : ℕ → Type 0
  Agrees c = (s v : ℕ) → s < m.states → v < size m → c ≡ couple m s v → b.moves s v ≡ move m s v

  agrees : (s v : ℕ) → v < size m → b.moves s v ≡ move m s v → Agrees (couple m s v)
  agrees s v h e t w _ k q =
      let (f, g) = couple_same m s t h k q in
      rw (← f, ← g) e

  -- a state by its word
  by_word : (s t : ℕ) → s < m.states → t < m.states → b.words s ≡ word t → s ≡ t
  by_word s t h k e = differ s t h k (sym (like.words s h) ∙ e)

  told_from : (s v : ℕ) (ws : List ℕ) → s < m.states → Goes m v ws → readings_from b s ws ≡ readings_from (specified m word) s ws
      → (c : ℕ) → In c (visits_from m s ws) → Agrees c
  told_from s v [] h g e c i = absurd i
  told_from s v (w ∷ ws) h g e c i =
      ⊎_elim (λ x. rw x (agrees s w k one)) (⊎_elim (λ x. rw x (agrees t w k two)) (told_from t w ws l g.1 rest c)) i
    where
      k : w < size m
      k = g.0.below

      t : ℕ
      t = move m s w

      l : t < m.states
      l = moves ok s w h k

      one : b.moves s w ≡ t
      one = by_word _ _ (like.closed s w h k) l (ap first e)

      two : b.moves t w ≡ move m t w
      two = by_word _ _ (like.closed t w l k) (moves ok t w l k) (rw one at (ap (λ x. first (after x)) e))

      rest : readings_from b t ws ≡ readings_from (specified m word) t ws
      rest = rw (one, two, ok.calm s w h k) at (ap (λ x. after (after x)) e)

  match_from : (s v : ℕ) (ws : List ℕ) → s < m.states → Goes m v ws → ((c : ℕ) → In c (visits_from m s ws) → Agrees c)
      → readings_from b s ws ≡ readings_from (specified m word) s ws
  match_from s v [] h g all = refl
  match_from s v (w ∷ ws) h g all =
      let k = g.0.below in
      let l = moves ok s w h k in
      let one = all _ (inl refl) s w h k refl in
      let two = all _ (inr (inl refl)) (move m s w) w l k refl in
      rw (one, two, ok.calm s w h k, like.words _ l, match_from (move m s w) w ws l g.1 (λ c i. all c (inr (inr i))))

  -- a run's readings are the expected ones where, and only where, the board moves as the table at each couple that it visits
  pub run_told : (vs : List ℕ) → Run m vs → (readings b vs ≡ readings (specified m word) vs) ↔ ((c : ℕ) → In c (visits m vs) → Agrees c)
  run_told [] r = absurd r
  run_told (v ∷ vs) r = (told, match)
    where
      k : v < size m
      k = r.0.below

      i : ℕ
      i = m.initial

      Same : ℕ → Type 0
      Same x = b.words (b.moves x v) ∷ readings_from b (b.moves x v) vs ≡ readings (specified m word) (v ∷ vs)

      told : readings b (v ∷ vs) ≡ readings (specified m word) (v ∷ vs) → (c : ℕ) → In c (visits m (v ∷ vs)) → Agrees c
      told e c x =
          let f = subst Same like.initial e in
          let one : b.moves i v ≡ move m i v = by_word _ _ (like.closed i v ok.begins k) (moves ok i v ok.begins k) (ap first f) in
          let rest : readings_from b i vs ≡ readings_from (specified m word) i vs = rw (one, r.0.rests) at (ap after f) in
          ⊎_elim (λ q. rw q (agrees i v k one)) (told_from i v vs ok.begins r.1 rest c) x

      match : ((c : ℕ) → In c (visits m (v ∷ vs)) → Agrees c) → readings b (v ∷ vs) ≡ readings (specified m word) (v ∷ vs)
      match all =
          subst Same (sym like.initial)
          (rw (all _ (inl refl) i v ok.begins k refl, r.0.rests, like.words i ok.begins, match_from i v vs ok.begins r.1 (λ c x. all c (inr x))))

  -- The board theorem.
  pub board_theorem : (plan : List (List ℕ)) → ((vs : List ℕ) → In vs plan → Run m vs)
      → ((c : ℕ) → Marked m c → (vs : List ℕ) × In vs plan × In c (visits m vs))
      → ((vs : List ℕ) → In vs plan → readings b vs ≡ readings (specified m word) vs)
      ↔ ((s v : ℕ) → s < m.states → v < size m → Marked m (couple m s v) → b.moves s v ≡ move m s v)
  board_theorem plan runs all = (
    λ same s v h k x. let (vs, i, j) = all _ x in (run_told vs (runs vs i)).0 (same vs i) _ j s v h k refl,
    λ moves vs i. (run_told vs (runs vs i)).1 (λ c j s v h k e. moves s v h k (vs, record { run = runs vs i; sees = rw (← e) j })),
  )
