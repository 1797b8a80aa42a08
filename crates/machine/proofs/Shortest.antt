-- The run to a couple is one run, and following parents leads to it: by induction on the rank, comparing trails from the last couple.
use mathlib.Core.Path.{◌≡◌, refl, sym, ap, ap₂, subst, ◌∙◌}
use mathlib.Core.Logic.{⊎_elim, inl, inr}
use mathlib.Core.List.{List, [], ◌∷◌}
use Prim.Native.Nat.{ℕ, zero, suc, ◌%◌, ◌≤◌}
use native.Mathlib.Omega.{arith}
use lib.ListN.{length}
use Rattle.machine.specs.Lists.{AtMost}
use Rattle.machine.specs.Runs.{Machine, size, Sound, Visitor, Rank}
use Rattle.machine.specs.Shortest.{rests, RunTo}
use Rattle.machine.specs.inner.Trails.{Steps, Parent, Trail}
use Rattle.machine.specs.inner.Model.{followed}
use Rattle.machine.proofs.Order.{equal_or}
use Rattle.machine.proofs.Trails.{back, along, length_rests, length_back, back_rests, visited_trail, trail_run}

pub at_most_antisym : (xs ys : List ℕ) → AtMost xs ys → AtMost ys xs → xs ≡ ys
at_most_antisym [] [] f g = refl
at_most_antisym [] (y ∷ ys) f g = absurd g
at_most_antisym (x ∷ xs) [] f g = absurd f
at_most_antisym (x ∷ xs) (y ∷ ys) f g = ⊎_elim
    (λ l. ⊎_elim (λ k. absurd (omega arith)) (λ k. absurd (omega arith)) g)
    (λ e. ⊎_elim (λ k. absurd (omega arith)) (λ k. ap₂ (λ (a : ℕ) (l : List ℕ). a ∷ l) e.0 (at_most_antisym xs ys e.1 k.1)) g)
    f

module _ {m : Machine} (ok : Sound m) where
  -- a run that visits c, of which no shorter one does
  pub shortest_trail : (c : ℕ) (vs : List ℕ) → Visitor m c vs → ((ws : List ℕ) → Visitor m c ws → length vs ≤ length ws)
      → Trail m c (rests m vs) × (vs ≡ along m (rests m vs) c) × (length vs ≡ suc (length (rests m vs)))
  shortest_trail c [] x few = absurd x.run
  shortest_trail c (v ∷ vs) x few = ⊎_elim
      (λ y. (
        y.trail,
        sym (back_rests m [] m.initial v vs x.run.0.below x.run.1) ∙ ap (λ (w : ℕ). back m (rests m (v ∷ vs)) (w ∷ [])) (sym y.setting),
        omega (arith, length_rests m [] m.initial v vs),
      ))
      (λ y. absurd (omega (arith, few _ (trail_run c y.path y.trail).0, y.shorter, length_back m y.path (c % size m ∷ []))))
      (visited_trail ok c v vs x)

  pub run_to_unique : (c : ℕ) (vs ws : List ℕ) → RunTo m c vs → RunTo m c ws → vs ≡ ws
  run_to_unique c vs ws f g =
      let e : length ws ≡ length vs = omega (arith, f.fewest ws g.visitor, g.fewest vs f.visitor) in
      let same = at_most_antisym (rests m vs) (rests m ws) (f.least ws g.visitor e) (g.least vs f.visitor (sym e)) in
      (shortest_trail c vs f.visitor f.fewest).1 ∙ ap (λ (ps : List ℕ). along m ps c) same ∙ sym (shortest_trail c ws g.visitor g.fewest).1

  -- a trail of no more changes than the run has
  pub some_trail : (c : ℕ) (vs : List ℕ) → Visitor m c vs → (ps : List ℕ) × Trail m c ps × (suc (length ps) ≤ length vs)
  some_trail c [] x = absurd x.run
  some_trail c (v ∷ vs) x = ⊎_elim
      (λ y. (rests m (v ∷ vs), y.trail, omega (arith, length_rests m [] m.initial v vs)))
      (λ y. (y.path, y.trail, omega (arith, y.shorter)))
      (visited_trail ok c v vs x)

  -- the rank by trails
  pub rank_trail : {c r : ℕ} → Rank m c r → (ps : List ℕ) → Trail m c ps → r ≤ length ps
  rank_trail {c} x ps t = omega (arith, x.fewest _ (trail_run c ps t).0, length_back m ps (c % size m ∷ []))

  pub rank_has : {c r : ℕ} → Rank m c r → (ps : List ℕ) × Trail m c ps × (length ps ≡ r)
  rank_has {c} x = let (ps, t, l) = some_trail c x.some x.visitor in (ps, t, omega (arith, rank_trail x ps t, x.changes))

  pub trail_rank : {c r : ℕ} (ps : List ℕ) → Trail m c ps → length ps ≡ r → ((qs : List ℕ) → Trail m c qs → r ≤ length qs) → Rank m c r
  trail_rank {c} ps t e least = record {
    some = along m ps c;
    visitor = (trail_run c ps t).0;
    changes = omega (arith, length_back m ps (c % size m ∷ []));
    fewest = λ vs x. let (qs, u, l) = some_trail c vs x in omega (arith, least qs u);
  }

  -- the least trail of r changes, of which none is shorter
  pub record Best (c r : ℕ) (ps : List ℕ) : Type 0 where
    pub trail : Trail m c ps
    pub changes : length ps ≡ r
    pub least : (qs : List ℕ) → Trail m c qs → length qs ≡ r → AtMost ps qs

  pub best_start : {c : ℕ} → Rank m c 0 → Best c 0 []
  best_start {c} x = let (ps, t, l) = some_trail c x.some x.visitor in record { trail = go ps t (omega (arith, x.changes)); changes = refl; least = λ qs u e. tt }
    where
      go : (ps : List ℕ) → Trail m c ps → length ps ≤ 0 → Trail m c []
      go [] t l = t
      go (p ∷ ps) t l = absurd (omega arith)

  -- one change before a couple of rank suc r its rank is r
  pub before_rank : {c q r : ℕ} (qs : List ℕ) → Rank m c (suc r) → Trail m q qs → Steps m q c → length qs ≡ r → Rank m q r
  before_rank {c} {q} qs x t y e = trail_rank qs t e (λ ps u. omega (arith, rank_trail x (q ∷ ps) (u, y)))

  pub best_step : {c p r : ℕ} {ps : List ℕ} → Rank m c (suc r) → Parent m r c p → Best p r ps → Best c (suc r) (p ∷ ps)
  best_step {c} {p} {r} {ps} x y z = record {
    trail = (z.trail, y.steps);
    changes = omega (arith, z.changes);
    least = least;
  }
    where
      least : (qs : List ℕ) → Trail m c qs → length qs ≡ suc r → AtMost (p ∷ ps) qs
      least [] t e = absurd (omega arith)
      least (q ∷ qs) t e =
          let k : length qs ≡ r = omega arith in
          let l : p ≤ q = y.least q t.1 (before_rank qs x t.0 t.1 k) in
          ⊎_elim (λ f. inr (f, z.least qs (subst (λ (d : ℕ). Trail m d qs) (sym f) t.0) k)) (λ (f : p ≡ q → ⊥). inl (omega arith)) (equal_or p q)

  -- it is the run to the couple
  pub best_run : {c r : ℕ} (ps : List ℕ) → Rank m c r → Best c r ps → RunTo m c (along m ps c)
  best_run {c} {r} ps x z =
      let n : length (along m ps c) ≡ suc r = omega (arith, length_back m ps (c % size m ∷ []), z.changes) in
      record {
        visitor = (trail_run c ps z.trail).0;
        fewest = λ ws y. rw n (x.fewest ws y);
        least = λ ws y e.
            let (t, _, l) = shortest_trail c ws y (λ us u. omega (arith, x.fewest us u)) in
            rw (trail_run c ps z.trail).1 (z.least (rests m ws) t (omega arith));
      }

  module _ (parent : ℕ → ℕ) (right : (r c : ℕ) → Rank m c (suc r) → Parent m r c (parent c)) where
    chain : ℕ → ℕ → List ℕ
    chain zero c = []
    chain (suc r) c = parent c ∷ chain r (parent c)

    chain_best : (r c : ℕ) → Rank m c r → Best c r (chain r c)
    unfolding chain
    chain_best zero c x = best_start x
    chain_best (suc r) c x = best_step x (right r c x) (chain_best r (parent c) (right r c x).rank)

    chain_followed : (r c : ℕ) (vs : List ℕ) → back m (chain r c) (c % size m ∷ vs) ≡ followed (size m) parent (suc r) c vs
    unfolding chain
    chain_followed zero c vs = refl
    chain_followed (suc r) c vs = chain_followed r (parent c) (c % size m ∷ vs)

    -- parents lead from a marked couple back to the start of the run to it
    pub followed_run : (r c : ℕ) → Rank m c r → RunTo m c (followed (size m) parent (suc r) c [])
    followed_run r c x = subst (RunTo m c) (chain_followed r c []) (best_run (chain r c) x (chain_best r c x))
