-- The rest condition that is written for a state: where each evolution's condition reads, it reads too, and it holds exactly where no
-- evolution from the state does. The conditions that it negates are those of the evolutions from the state, by induction on their number.
-- So each record of the file with rest conditions holds exactly if it does in the file without.
use mathlib.Core.Path.{◌≡◌, refl, sym, subst, ◌∙◌}
use mathlib.Core.Bool.{cond}
use mathlib.Core.Logic.{⊎_elim}
use mathlib.Core.List.Memᴰ
use mathlib.Core.List.{List, [], ◌∷◌, Memᴰ}
use Prim.Native.Nat.{ℕ, zero, suc, ◌+◌, ◌≤◌, ◌<◌}
use native.Mathlib.Omega.{arith}
use native.Mathlib.Decide.{ℕ_discrete}
use lib.Dec.{eqb}
use borrow.Author.Tests.{eq-eqb, ne_eqb}
use Rattle.condition.specs.Condition.{Reads, Holds}
use Rattle.machine.proofs.Order.{below_or}
use Rattle.specification.specs.Records.{records, source, Evolves}
use Rattle.specification.specs.Rules.{text_of, conditions, condition_of, Unreads, Idle, HoldsAt, by_text, by_rest}
use Rattle.specification.specs.Rests.{conditions_from, rest_text, Nested}
use Rattle.specification.specs.inner.Private.{Laid}
use Rattle.specification.specs.declared.records.Sizes.{Sizes}
use Rattle.specification.proofs.Conditions.{condition_there, condition_record, condition_body}
use Rattle.specification.proofs.Forms.{of_text, of_rest}
use Rattle.specification.proofs.Rewritten.{rested, shares_back, Rewritten}
use Rattle.specification.proofs.Carried.{Carries}
use Rattle.specification.proofs.Sums.{Means, means_map, means_negated, means_reads, means_holds, holds_means}

-- t is the condition of an evolution from s
record Leaving (file : List ℕ) (z : Sizes) (s : ℕ) (t : List ℕ) : Type 0 where
  evolution : ℕ
  evolves : Evolves z evolution
  from : source file z evolution ≡ s
  is : t ≡ text_of file z evolution

module _ (file : List ℕ) (z : Sizes) (s : ℕ) where
  -- the conditions from s are those of the evolutions from s
  listed : (k : ℕ) → k ≤ z.evolutions → {t : List ℕ} → Memᴰ t (conditions_from file z s k) → Leaving file z s t
  unfolding conditions_from
  listed zero h m = absurd (Memᴰ.not-nil m)
  listed (suc k) h {t} m = ⊎_elim (listed k (omega arith)) (by (ℕ_discrete (source file z (z.states + k)) s)) (Memᴰ.append_cases (conditions_from file z s k) m)
    where
      by : Dec (source file z (z.states + k) ≡ s) → Memᴰ t (cond (eqb (source file z (z.states + k)) s) (text_of file z (z.states + k) ∷ []) []) → Leaving file z s t
      by (yes e) m =
          record { evolution = z.states + k; evolves = record { after = omega arith; below = omega arith }; from = e; is = Memᴰ.eq_of_singleton (rw (eq-eqb _ _ e) at m) }
      by (no n) m = absurd (Memᴰ.not-nil (rw (ne_eqb _ _ n) at m))

  lists : (k r : ℕ) → z.states ≤ r → r < z.states + k → source file z r ≡ s → Memᴰ (text_of file z r) (conditions_from file z s k)
  unfolding conditions_from
  lists zero r a b e = absurd (omega arith)
  lists (suc k) r a b e = by (ℕ_discrete r (z.states + k)) (lists k r a)
    where
      by : Dec (r ≡ z.states + k) → (r < z.states + k → source file z r ≡ s → Memᴰ (text_of file z r) (conditions_from file z s k)) → Memᴰ (text_of file z r) (conditions_from file z s (suc k))
      by (yes q) _ = Memᴰ.append_right (conditions_from file z s k) (rw (sym q, eq-eqb _ _ e) (Memᴰ.head refl))
      by (no n) f = Memᴰ.append_left _ (f (omega arith) e)

-- each evolution's condition reads
pub record AllRead (file : List ℕ) (z : Sizes) : Type 0 where
  pub reads : (r : ℕ) → Evolves z r → Reads z.inputs (text_of file z r)

module _ {file : List ℕ} {z : Sizes} (a : AllRead file z) (v s : ℕ) where
  -- the rest condition says that no evolution from s holds
  rest_means : Means z.inputs v (rest_text file z s) (Idle file z s v)
  rest_means = means_map
      (λ n. record { none = λ r k e. n (text_of file z r) (lists file z s z.evolutions r k.after k.below e) })
      (λ i t m h. let x = listed file z s z.evolutions (omega arith) m in i.none x.evolution x.evolves x.from (subst (Holds z.inputs v) x.is h))
      (means_negated (conditions_from file z s z.evolutions) (λ t m.
      let x = listed file z s z.evolutions (omega arith) m in subst (Reads z.inputs) (sym x.is) (a.reads x.evolution x.evolves)))

  rest_reads : Nested file z s → Reads z.inputs (rest_text file z s)
  rest_reads = means_reads rest_means

  idle_holds : Nested file z s → Idle file z s v → Holds z.inputs v (rest_text file z s)
  idle_holds = means_holds rest_means

  holds_idle : Holds z.inputs v (rest_text file z s) → Idle file z s v
  holds_idle = holds_means rest_means

-- a file f, and g with rest conditions
module _ {f g : List ℕ} {z : Sizes} (l : Laid f z) (w : Rewritten f g z) where
  -- the conditions of the evolutions and of kinds 5 and 6 are the same, so that one that does not read in f does not in g
  condition_same : (r : ℕ) → z.states ≤ r → r < conditions z → condition_of g (rested z) r ≡ condition_of f z r
  condition_same r a b = ⊎_elim
      (λ h. condition_record g (rested z) r h ∙ w.texts r a h ∙ sym (condition_record f z r h))
      (λ h. condition_body g (rested z) r h ∙ w.shares.bodies _ (omega arith) (condition_there l r h b) ∙ sym (condition_body f z r h))
      (below_or r (records z))

  pub unreads : (r : ℕ) → Unreads f z r → Unreads g (rested z) r
  unreads r u = record { below = u.below; worded = omega arith; unread = λ y. u.unread (subst (Reads z.inputs) (condition_same r (omega (arith, w.worded, u.worded)) u.below) y) }

  -- where the evolutions' conditions read, the rest conditions do too, and each record holds in one exactly if it does in the other
  module _ (a : AllRead f z) (nested : (s : ℕ) → s < z.states → Nested f z s) where
    unreads_back : (r : ℕ) → Unreads g (rested z) r → Unreads f z r
    unreads_back r u = ⊎_elim
        (λ h. absurd (u.unread (subst (Reads z.inputs) (sym (condition_record g (rested z) r (omega arith) ∙ w.rests r h)) (rest_reads a 0 r (nested r h)))))
        (λ k. record { below = u.below; worded = omega (arith, w.worded); unread = λ y. u.unread (subst (Reads z.inputs) (sym (condition_same r k u.below)) y) })
        (below_or r z.states)

    holds : (v r : ℕ) → r < records z → HoldsAt f z v r → HoldsAt g (rested z) v r
    holds v r b x = by_text (omega arith) (⊎_elim
        (λ h. subst (Holds z.inputs v) (sym (w.rests r h)) (idle_holds a v r (nested r h) (of_rest (omega (arith, w.worded)) x)))
        (λ k. subst (Holds z.inputs v) (sym (w.texts r k b)) (of_text (omega (arith, w.worded)) x))
        (below_or r z.states))

    holds_back : (v r : ℕ) → r < records z → HoldsAt g (rested z) v r → HoldsAt f z v r
    holds_back v r b x =
        let t = of_text (omega arith) x in
        ⊎_elim
        (λ h. by_rest (omega (arith, w.worded)) (holds_idle a v r (subst (Holds z.inputs v) (w.rests r h) t)))
        (λ k. by_text (omega (arith, w.worded)) (subst (Holds z.inputs v) (w.texts r k b) t))
        (below_or r z.states)

    pub carries : Carries z f z.worded g 0
    carries = record { shares = w.shares; unreads = unreads; holds = holds }

    pub carries_back : Carries z g 0 f z.worded
    carries_back = record { shares = shares_back w.shares; unreads = unreads_back; holds = holds_back }
