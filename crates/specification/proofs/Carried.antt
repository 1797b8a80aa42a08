-- What carries over from a file to one with the same words, evolutions and bodies beyond kind 4: where the same records hold in both, each
-- check from 4 to 13 fails at the same places. Each lemma carries one check over one way; the other way is the same lemma with the files
-- exchanged.
use mathlib.Core.Path.{◌≡◌, sym, subst, ◌∙◌}
use mathlib.Core.Logic.{⊎_elim}
use mathlib.Core.List.{List}
use Prim.Native.Nat.{ℕ, ◌<◌}
use native.Mathlib.Omega.{arith}
use Rattle.verdict.specs.Checks.{Nowhere, Passed, Judged}
use Rattle.verdict.specs.declared.Answer.{Answer}
use Rattle.verdict.proofs.Order.{judged_row, unless}
use Rattle.sets.proofs.Arrays.{set_same}
use Rattle.machine.proofs.Order.{below_or}
use Rattle.machine.proofs.Same.{Into, transient_into, unreached_into, start_into}
use Rattle.specification.specs.File.{kinds, never_kind, starts_kind, EntryOf}
use Rattle.specification.specs.Records.{settings, records, Evolves, Beyond, output_beyond, source_beyond, target_beyond, Own, Twice}
use Rattle.specification.specs.Rules.{Unreads, HoldsAt, rule_of, leads_to, Fires, TwoRules, NoRule, Moves, HoldsIn, Allowed, said, power_up, MayStart}
use Rattle.specification.specs.Reading.{ContentsOf}
use Rattle.specification.specs.inner.Private.{sound_checks}
use Rattle.specification.specs.declared.Contents.{Contents}
use Rattle.specification.specs.declared.records.Sizes.{Sizes}
use Rattle.specification.proofs.Firing.{rule_state, rule_evolution, leads_state, leads_evolution}
use Rattle.specification.proofs.Settling.{leads_below, same_words}
use Rattle.specification.proofs.Rewritten.{worded_from, Shares, shares_back}

-- what does not read, or holds, in f, where the records from b on have a condition, does so in g, where those from c on have
pub record Carries (z : Sizes) (f : List ℕ) (b : ℕ) (g : List ℕ) (c : ℕ) : Type 0 where
  pub shares : Shares z f g
  pub unreads : (r : ℕ) → Unreads f (worded_from z b) r → Unreads g (worded_from z c) r
  pub holds : (v r : ℕ) → r < records z → HoldsAt f (worded_from z b) v r → HoldsAt g (worded_from z c) v r

-- 4, 6 and 7: the records
module _ {z : Sizes} {f g : List ℕ} (x : Shares z f g) (b c : ℕ) where
  evolves : {r : ℕ} → Evolves (worded_from z b) r → Evolves (worded_from z c) r
  evolves e = record { after = e.after; below = e.below }

  pub beyond_into : (r : ℕ) → Beyond f (worded_from z b) r → Beyond g (worded_from z c) r
  beyond_into r (output_beyond h l) = output_beyond h (omega (arith, x.words r h))
  beyond_into r (source_beyond e l) = source_beyond (evolves e) (omega (arith, x.sources r e.after e.below))
  beyond_into r (target_beyond e l) = target_beyond (evolves e) (omega (arith, x.targets r e.after e.below))

  own_into : (r : ℕ) → Own f (worded_from z b) r → Own g (worded_from z c) r
  own_into r o = let e = o.evolves in record { evolves = evolves e; loops = x.targets r e.after e.below ∙ o.loops ∙ sym (x.sources r e.after e.below) }

  twice_into : (r : ℕ) → Twice f (worded_from z b) r → Twice g (worded_from z c) r
  twice_into r t =
      let e = t.evolves in
      let d = t.evolved in
      record {
        evolves = evolves e;
        earlier = t.earlier;
        before = t.before;
        evolved = evolves d;
        from = x.sources _ d.after d.below ∙ t.from ∙ sym (x.sources r e.after e.below);
        to = x.targets _ d.after d.below ∙ t.to ∙ sym (x.targets r e.after e.below);
      }

  rule_same : (r : ℕ) → r < records z → rule_of g (worded_from z c) r ≡ rule_of f (worded_from z b) r
  rule_same r h = ⊎_elim
      (λ l. rule_state g (worded_from z c) r l ∙ sym (rule_state f (worded_from z b) r l))
      (λ k. rule_evolution g (worded_from z c) r k ∙ x.sources r k h ∙ sym (rule_evolution f (worded_from z b) r k))
      (below_or r z.states)

  leads_same : (r : ℕ) → r < records z → leads_to g (worded_from z c) r ≡ leads_to f (worded_from z b) r
  leads_same r h = ⊎_elim
      (λ l. leads_state g (worded_from z c) r l ∙ sym (leads_state f (worded_from z b) r l))
      (λ k. leads_evolution g (worded_from z c) r k ∙ x.targets r k h ∙ sym (leads_evolution f (worded_from z b) r k))
      (below_or r z.states)

  -- the bodies of kinds 5 and 6, whose entries come after the first four
  entry_into : {kind k : ℕ} → EntryOf f kind k → EntryOf g kind k
  entry_into {kind} {k} e = record { there = omega (arith, x.count, e.there); is = x.kinds_same k e.there ∙ e.is }

  says_into : (kind v : ℕ) → kinds < kind → HoldsIn f (worded_from z b) kind v → HoldsIn g (worded_from z c) kind v
  says_into kind v h y =
      let e = y.of in
      let early : y.entry < kinds → ⊥ = λ l. omega (arith, x.always _ l, e.is) in
      record { entry = y.entry; of = entry_into e; holds = rw (x.bodies _ (omega arith) e.there) y.holds }

-- 8: the rules
module _ {z : Sizes} {f g : List ℕ} {b c : ℕ} (x : Carries z f b g c) where
  fires_into : {s v r : ℕ} → Fires f (worded_from z b) s v r → Fires g (worded_from z c) s v r
  fires_into y = record { below = y.below; rule = rule_same x.shares b c _ y.below ∙ y.rule; holds = x.holds _ _ y.below y.holds }

  pub moves_into : {s v t : ℕ} → Moves f (worded_from z b) s v t → Moves g (worded_from z c) s v t
  moves_into y = record { rule = y.rule; fires = fires_into y.fires; leads = leads_same x.shares b c _ y.fires.below ∙ y.leads }

  two_into : {m : ℕ} → (p : ℕ) → TwoRules f (worded_from z b) m p → TwoRules g (worded_from z c) m p
  two_into p y = let t = y.two in
      record { s = y.s; v = y.v; couple = y.couple; two = record { low = t.low; high = t.high; differ = t.differ; one = fires_into t.one; other = fires_into t.other } }

-- 9: where no rule holds
none_into : {z : Sizes} {f g : List ℕ} {b c m : ℕ} → Carries z g c f b → (p : ℕ) → NoRule f (worded_from z b) m p → NoRule g (worded_from z c) m p
none_into y p n = record { s = n.s; v = n.v; couple = n.couple; none = λ r h. n.none r (fires_into y h) }

-- the settings that are never used, and the starts
module _ {z : Sizes} {f g : List ℕ} {b c : ℕ} (x : Shares z f g) where
  allowed_into : (v : ℕ) → Allowed f (worded_from z b) v → Allowed g (worded_from z c) v
  allowed_into v (said h) = said (says_into x b c starts_kind v (omega arith) h)
  allowed_into v (power_up n e) = power_up (λ h. n (h.0, entry_into (shares_back x) b c h.1)) e

  may_into : (v : ℕ) → MayStart f (worded_from z b) v → MayStart g (worded_from z c) v
  may_into v m = (allowed_into v m.0, λ h. m.1 (says_into (shares_back x) c b never_kind v (omega arith) h))

-- what is answered on success
pub contents_into : {z : Sizes} {f g : List ℕ} {b c : ℕ} {r : Contents} → Shares z f g → ContentsOf f (worded_from z b) r → ContentsOf g (worded_from z c) r
contents_into {b = b} {c} x q =
    let e = q.frame in
    record {
      outputs = q.outputs;
      evolutions = q.evolutions;
      frame = record {
        inputs = e.inputs;
        states = e.states;
        initial = e.initial;
        never = set_same (λ v. says_into x b c never_kind v (omega arith)) (λ v. says_into (shares_back x) c b never_kind v (omega arith)) e.never;
        starts = set_same (allowed_into x) (allowed_into (shares_back x)) e.starts;
      };
    }

-- 10 to 13: the moves; and so all the checks
module _ {z : Sizes} {f g : List ℕ} {b c : ℕ} (x : Carries z f b g c) (y : Carries z g c f b) (i : z.initial < z.states) where
  -- moves lead to states, by check 4
  module _ (n : Nowhere (Beyond g (worded_from z c))) where
    below : {s v t : ℕ} → Moves g (worded_from z c) s v t → t < z.states
    below m = subst (λ t. t < z.states) m.leads (leads_below g (worded_from z c) n _ m.fires.below)

    into : Into z.states (settings z) (Moves f (worded_from z b)) (Moves g (worded_from z c))
    into = record { to = λ s v t _ _. moves_into x; inside = λ s v t _ _ m. below (moves_into x m) }

    from : Into z.states (settings z) (Moves g (worded_from z c)) (Moves f (worded_from z b))
    from = record { to = λ s v t _ _. moves_into y; inside = λ s v t _ _. below }

  pub judged_into : {a : Answer} → Judged (sound_checks f (worded_from z b)) Passed a → Judged (sound_checks g (worded_from z c)) Passed a
  judged_into =
      let w = x.shares in
      let u = y.shares in
      judged_row (beyond_into w b c) (beyond_into u c b) (λ n.
      judged_row x.unreads y.unreads (λ _.
      judged_row (own_into w b c) (own_into u c b) (λ _.
      judged_row (twice_into w b c) (twice_into u c b) (λ _.
      judged_row (two_into x) (two_into y) (λ _.
      judged_row (none_into y) (none_into x) (λ _.
      judged_row (transient_into (into n) (from n)) (transient_into (from n) (into n)) (λ _.
      judged_row (same_words u.words) (same_words w.words) (λ _.
      judged_row (unreached_into (from n) i) (unreached_into (into n) i) (λ _.
      judged_row (unless (λ s. (s.0, start_into (from n) (may_into u s.0) i s.1))) (unless (λ s. (s.0, start_into (into n) (may_into w s.0) i s.1))) (λ _ v. v))))))))))
