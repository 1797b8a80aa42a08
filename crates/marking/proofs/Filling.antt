-- The loop over the weights: the starts begin it, each round leaves all weights up to a higher one, and where none is left the weights and
-- parents of all couples are there.
use mathlib.Core.Path.{◌≡◌, ◌∙◌}
use mathlib.Core.Logic.{◌⊎◌, inl, inr}
use mathlib.Core.Bool.{Bool, true, false, and-eq-true_iff}
use mathlib.Core.List.{List, []}
use Prim.Native.Nat.{ℕ, ◌+◌, ◌≤◌, ◌<◌, zero-le}
use native.Mathlib.Nat.{le_refl}
use native.Mathlib.Omega.{arith}
use lib.ListN.{get_or, length}
use borrow.Author.Tests.{ltb-true, eqb-true}
use Rattle.machine.specs.Limits.{most_couples}
use Rattle.machine.specs.Couples.{differing}
use Rattle.machine.specs.Runs.{Machine, usable, may_alter, machine_by, size, couples}
use Rattle.machine.specs.declared.Frame.{Frame}
use Rattle.machine.specs.inner.Trails.{Trail}
use Rattle.machine.proofs.Sizes.{couples_few}
use Rattle.machine.proofs.Flips.{Single as AllSingle, machine_single}
use Rattle.several.specs.Weights.{unweighed}
use Rattle.marking.specs.declared.changes.Changes.TheVariants.{Single, Multiple}
use Rattle.marking.specs.inner.Queue.{Offer, Pushed}
use Rattle.marking.specs.inner.Queue.Offer.{given, lower, same}
use Rattle.marking.specs.inner.Engine.{ByStarts, Spreading, SpreadAs, Light, Next, Before, RoundLeft, Progress}
use Rattle.tables.specs.Tables.{Checked}
use Rattle.marking.specs.inner.Parts.{Blank, Weighed}
use Rattle.marking.proofs.Turning.{start_heads}
use Rattle.marking.proofs.Spreading.{spread_kept}
use Rattle.marking.proofs.Progress.{Alters, light_at, second_left, progress_last, next_small, progress_next, progress_moves}

-- of the machine of a frame
module _ (f : Frame) (T : List ℕ) where
  pub machine_alters : (several : Bool) → Alters (machine_by several f T)
  machine_alters several = record { some = λ v w e. some several _ ((and-eq-true_iff (usable f w) (may_alter several (differing f.inputs v w))).0 e).1 }
    where
      some : (several : Bool) (d : ℕ) → may_alter several d ≡ true → 0 < d
      some true d e = ltb-true 0 d e
      some false d e = omega (arith, eqb-true d 1 e)

  pub single_by : (several : Bool) → several ≡ false → AllSingle (machine_by several f T)
  single_by several e = rw e (machine_single f T)

-- the rounds of a sound machine
module _ {m : Machine} (checked : Checked m) where
  all_few : couples m ≤ most_couples
  all_few = couples_few checked.tabled.sized

  module _ {R P Q : List ℕ} {a b e : ℕ} (x : Progress m R P Q a b e) where
    pub next_room : (several : Bool) → Before several a b e → (b < e) × Light R Q b × (a < e → Light R Q a)
    next_room several h =
        let l = second_left checked.sound all_few x several h in
        (l, light_at checked.sound all_few x b l, light_at checked.sound all_few x a)

    pub fill_last : (several : Bool) → (several ≡ false → AllSingle m) → (RoundLeft several a b e (length R) → ⊥) → Weighed m R P
    fill_last = progress_last checked.sound all_few x

    module _ {r : ℕ} (y : Next r R Q a b e) where
      small : r < unweighed
      small = next_small checked.sound all_few x y

      pub spreads_one : Spreading m R P Q r a e e
      spreads_one = record {
        room = x.room;
        total = x.total;
        small = small;
        from = x.a_in;
        to = le_refl e;
        light = λ j l. (light_at checked.sound all_few x j l).light;
      }

      module _ {R₁ P₁ Q₁ : List ℕ} {h t₁ : ℕ} (u : SpreadAs m Single r a e R P Q e R₁ P₁ Q₁ h t₁) where
        pub spreads_two : Spreading m R₁ P₁ Q₁ r b e t₁
        spreads_two = record {
          room = u.going.spread.room;
          total = u.going.spread.same_length ∙ x.total;
          small = small;
          from = x.b_in;
          to = u.going.spread.more;
          light = λ j l. rw (spread_kept x.room u.going.spread j l) (light_at checked.sound all_few x j l).light;
        }

        module _ (alters : Alters m) {R₂ P₂ Q₂ : List ℕ} {g t₂ : ℕ} (v : SpreadAs m Multiple r b e R₁ P₁ Q₁ t₁ R₂ P₂ Q₂ g t₂) where
          pub fill_next : Progress m R₂ P₂ Q₂ h g t₂
          fill_next = progress_next checked.sound all_few x y alters u v

          pub fill_moves : a + b < h + g
          fill_moves = progress_moves checked.sound all_few x y alters u v

-- in blank buffers
module _ {m : Machine} {R₀ P₀ : List ℕ} (checked : Checked m) (blank : Blank m R₀ P₀) where
  -- the starts
  pub fill_first : {Q₀ R P Q : List ℕ} {tail : ℕ} → Pushed (ByStarts m (size m)) 0 0 R₀ P₀ Q₀ 0 R P Q tail → Progress m R P Q 0 0 tail
  fill_first {Q₀} {R} {P} {Q} {tail} x =
      let full : length R ≡ couples m = x.same_length ∙ blank.exact.weights_are in
      let fresh = x.fresh 0 (record { from = zero-le; new = λ j u v. absurd (omega arith); all = λ c l e. absurd (omega (arith, blank.weights_blank c (rw (← blank.exact.weights_are) l))) }) in
      let (level, heads) = start_heads checked.sound full (λ c l. started c l (x.offer c)) x.room fresh in
      record {
        up_to = 0;
        small = omega arith;
        level = level;
        heads = heads;
        room = x.room;
        total = full;
        a_in = zero-le;
        b_in = zero-le;
        orphan = λ c l w. orphan c (rw (← blank.exact.weights_are) (rw x.same_length at l)) (x.offer c);
      }
    where
      started : (c : ℕ) → c < couples m → Offer (ByStarts m (size m)) 0 0 R₀ P₀ R P c → (Trail m c [] × (get_or R c 0 ≡ 0)) ⊎ ((Trail m c [] → ⊥) × (get_or R c 0 ≡ unweighed))
      started c l (given (v, h, (s, e)) f g o) = inl ((v, s, e), g)
      started c l (lower b f o g u) = absurd (omega (arith, blank.weights_blank c l))
      started c l (same u v g o) = inr (λ (w, s, e). u (w, s.below, (s, e)) (blank.weights_blank c l), g ∙ blank.weights_blank c l)

      orphan : (c : ℕ) → c < couples m → Offer (ByStarts m (size m)) 0 0 R₀ P₀ R P c → get_or P c 0 ≡ 0
      orphan c l (given b f g o) = o
      orphan c l (lower b f o g u) = u
      orphan c l (same u v g o) = o ∙ blank.parents_blank c l
