-- A scan of the rules of one state at one setting that have a condition keeps a tally: of the records seen at most one holds, and the byte
-- is where it leads, or what stands where none does: the rest of a state without a rest condition, or the blank. At the end the byte is
-- what the table notes of the couple.
use mathlib.Core.Path.{◌≡◌, refl, sym, subst, subst₂, ◌∙◌}
use mathlib.Core.Logic.{⊎_elim}
use mathlib.Core.List.{List}
use Prim.Native.Nat.{ℕ, ◌+◌, ◌*◌, ◌≤◌, ◌<◌}
use native.Mathlib.Nat.{lt_of_lt_of_le}
use native.Mathlib.Omega.{arith}
use native.Mathlib.Decide.{dec_lt, ℕ_discrete}
use lib.ListN.{length, set}
use borrow.Author.Count.{below_more}
use borrow.Author.Tests.{lt-ltb, le-ltb}
use Rattle.verdict.specs.Buffers.{Filled}
use Rattle.verdict.specs.Checks.{Nowhere}
use Rattle.verdict.proofs.Fills.{filled_at, filled_more}
use Rattle.machine.specs.Limits.{most_states}
use Rattle.machine.specs.Couples.{Couple}
use Rattle.machine.proofs.Order.{below_or}
use Rattle.machine.proofs.Couples.{same_couple}
use Rattle.condition.specs.Condition.{Holds}
use Rattle.specification.specs.Limits.{blank_move}
use Rattle.specification.specs.Records.{records, source, Own}
use Rattle.specification.specs.Rules.{text_of, Idle, HoldsAt, by_text, by_rest, rule_of, leads_to, Fires, Two, TwoRules}
use Rattle.specification.specs.inner.Private.{Laid, Follows, Linked, first_rule, rest_of, Noted}
use Rattle.specification.specs.declared.records.Sizes.{Sizes}
use Rattle.specification.proofs.Firing.{rule_state, rule_evolution, rule_other, leads_state, leads_evolution}
use Rattle.specification.proofs.Forms.{of_text, of_rest}

-- of the numbers below n at most one is an F, and `to` is where it leads, or `rest`
pub record Tally (F : ℕ → Type 0) (lead : ℕ → ℕ) (rest n to : ℕ) : Type 0 where
  pub one : (to ≡ rest → ⊥) → (q : ℕ) × (q < n) × F q × (lead q ≡ to)
  pub none : to ≡ rest → (q : ℕ) → q < n → F q → ⊥
  pub single : (q r : ℕ) → q < r → r < n → F q → F r → ⊥

module _ {F : ℕ → Type 0} {lead : ℕ → ℕ} {rest n to : ℕ} (t : Tally F lead rest n to) where
  pub tally_at : {m x : ℕ} → m ≡ n → x ≡ to → Tally F lead rest m x
  tally_at e h = subst₂ (Tally F lead rest) (sym e) (sym h) t

  -- none of those from n up to m
  pub tally_past : {m : ℕ} → n ≤ m → ((q : ℕ) → q < m → n ≤ q → F q → ⊥) → Tally F lead rest m to
  tally_past {m} l not =
      record {
        one = λ e. let w = t.one e in (w.0, omega (arith, w.1), w.2, w.3);
        none = λ e q h f. ⊎_elim (λ k. t.none e q k f) (λ k. not q h k f) (below_or q n);
        single = λ q r k h f g. ⊎_elim (λ b. t.single q r k b f g) (λ b. not r h b g) (below_or r n);
      }

  pub tally_skip : (F n → ⊥) → Tally F lead rest (n + 1) to
  tally_skip not = tally_past (omega arith) (λ q h l f. let e : q ≡ n = omega arith in not (subst F e f))

  pub tally_take : to ≡ rest → (lead n ≡ rest → ⊥) → F n → Tally F lead rest (n + 1) (lead n)
  tally_take e away here =
      record {
        one = λ _. (n, omega arith, here, refl);
        none = λ z. absurd (away z);
        single = λ q r l h f. below_more (λ r. q < r → F q → F r → ⊥) n (λ r h l f. t.single q r l h f) (λ l f g. t.none e q l f) r h l f;
      }

  pub tally_two : (to ≡ rest → ⊥) → F n → Two F
  tally_two e here = let w = t.one e in record { low = w.0; high = n; differ = w.1; one = w.2; other = here }

-- record q is a rule of s with a condition, which holds at v
pub record Applies (file : List ℕ) (z : Sizes) (s v q : ℕ) : Type 0 where
  pub below : q < records z
  pub rule : rule_of file z q ≡ s
  pub worded : z.worded ≤ q
  pub holds : Holds z.inputs v (text_of file z q)

-- the scan begins at r, the first such rule
pub record Begins (file : List ℕ) (z : Sizes) (s r : ℕ) : Type 0 where
  pub worded : z.worded ≤ r
  pub upto : r ≤ records z
  pub same : r < records z → rule_of file z r ≡ s
  pub first : (q : ℕ) → q < r → rule_of file z q ≡ s → z.worded ≤ q → ⊥

module _ {file : List ℕ} {z : Sizes} {s : ℕ} (h : s < z.states) where
  -- the first link of a state leads past the states
  past_states : {n : ℕ} → Follows file z s n → z.states ≤ n
  past_states {n} f = ⊎_elim (λ l. rule_other file z n (f.same l ∙ rule_state file z s h) (λ e. omega (arith, f.after))) (λ k. omega arith) (below_or n (records z))

  pub begins : {next : List ℕ} → z.worded ≤ z.states → Linked file z next → Begins file z s (first_rule next z.worded s)
  begins {next} few l = ⊎_elim
      (λ k.
      let f = l.at s (omega arith) in
      rw (lt-ltb s z.worded k) (record {
        worded = omega (arith, past_states f);
        upto = f.upto;
        same = λ b. f.same b ∙ rule_state file z s h;
        first = λ q b e w. let l : s < q = omega arith in f.between q b l (e ∙ sym (rule_state file z s h));
      }))
      -- the records below s are rules of other states
      (λ k.
      rw (le-ltb s z.worded k) (record {
        worded = k;
        upto = omega arith;
        same = λ _. rule_state file z s h;
        first = λ q b e _. let a = sym (rule_state file z q (omega arith)) ∙ e in omega arith;
      }))
      (below_or s z.worded)

pub tally_start : {file : List ℕ} {z : Sizes} {s v r rest to : ℕ} → Begins file z s r → to ≡ rest → Tally (Applies file z s v) (leads_to file z) rest r to
tally_start b e = record { one = λ n. absurd (n e); none = λ _ q l f. b.first q l f.rule f.worded; single = λ q r l k f g. b.first r k g.rule g.worded }

-- a rule with a condition that holds fires
fires : {file : List ℕ} {z : Sizes} {s v q : ℕ} → Applies file z s v q → Fires file z s v q
fires f = record { below = f.below; rule = f.rule; holds = by_text f.worded f.holds }

pub two_fire : {file : List ℕ} {z : Sizes} {s v : ℕ} → Two (Applies file z s v) → Two (Fires file z s v)
two_fire t = record { low = t.low; high = t.high; differ = t.differ; one = fires t.one; other = fires t.other }

-- a rule that has a condition is an evolution of a state without one
module _ (file : List ℕ) (z : Sizes) {s q : ℕ} (k : s < z.worded) (is : rule_of file z q ≡ s) (w : z.worded ≤ q) where
  evolution : z.states ≤ q
  evolution = rule_other file z q is (λ e. omega arith)

  from : source file z q ≡ s
  from = sym (rule_evolution file z q evolution) ∙ is

-- such a rule does not lead to what stands where none holds, by checks 4 and 6
pub leads_away : {file : List ℕ} {z : Sizes} {s q : ℕ} → z.states ≤ most_states → Nowhere (Own file z) → q < records z → rule_of file z q ≡ s → z.worded ≤ q → leads_to file z q < z.states
    → leads_to file z q ≡ rest_of z.worded s → ⊥
leads_away {file} {z} {s} {q} few own b is w l e = ⊎_elim
    (λ k.
    let h = evolution file z k is w in
    own.nowhere q (record { evolves = record { after = h; below = b }; loops = sym (leads_evolution file z q h) ∙ (rw (lt-ltb s z.worded k) at e) ∙ sym (from file z k is w) }))
    (λ k. let e = rw (le-ltb s z.worded k) at e in omega arith)
    (below_or s z.worded)

-- all rules of s at v: those with a condition, and of a state without one its rest, where none of them holds
module _ {file : List ℕ} {z : Sizes} {s v n : ℕ} (l : Laid file z) (h : s < z.states) (leads : (r : ℕ) → r < records z → leads_to file z r < z.states) (all : records z ≤ n) where
  -- what fires is the state's own record, or applies
  by_words : (q : ℕ) → Fires file z s v q → (s < z.worded → q ≡ s → ⊥) → Applies file z s v q
  by_words q f not =
      let w : q < z.worded → ⊥ = λ k. let e = sym (rule_state file z q (omega (arith, l.worded))) ∙ f.rule in not (omega arith) e in
      let k : z.worded ≤ q = omega arith in
      record { below = f.below; rule = f.rule; worded = k; holds = of_text k f.holds }

  -- where the rest does not fire
  tally_words : {rest to : ℕ} → Tally (Applies file z s v) (leads_to file z) rest n to → (to ≡ blank_move → to ≡ rest) → (to ≡ rest → to ≡ blank_move)
      → ((q : ℕ) → Fires file z s v q → s < z.worded → q ≡ s → ⊥) → Tally (Fires file z s v) (leads_to file z) blank_move n to
  tally_words t i o not = record {
    one = λ e. let w = t.one (λ r. e (o r)) in (w.0, w.1, fires w.2, w.3);
    none = λ e q k f. t.none (i e) q k (by_words q f (not q f));
    single = λ q r k j f g. t.single q r k j (by_words q f (not q f)) (by_words r g (not r g));
  }

  module _ {to : ℕ} (k : s < z.worded) (t : Tally (Applies file z s v) (leads_to file z) s n to) where
    -- where it does, nothing else fires
    tally_rests : to ≡ s → Tally (Fires file z s v) (leads_to file z) blank_move n to
    tally_rests e =
        let idle : Idle file z s v = record {
          none = λ r y is x. t.none e r (omega (arith, y.below)) (record { below = y.below; rule = rule_evolution file z r y.after ∙ is; worded = omega (arith, y.after, l.worded); holds = x });
        } in
        let own : (q : ℕ) → q < n → Fires file z s v q → (q ≡ s → ⊥) → ⊥ = λ q b f not. t.none e q b (by_words q f (λ _. not)) in
        record {
          one = λ _. (s, omega arith, record { below = omega arith; rule = rule_state file z s h; holds = by_rest k idle }, leads_state file z s h ∙ sym e);
          none = λ b. absurd (omega (arith, l.ranges.few_states));
          single = λ q r b j f g. own q (omega arith) f (λ a. own r j g (λ c. omega arith));
        }

    -- where some evolution applies it does not
    tally_moves : (to ≡ s → ⊥) → Tally (Fires file z s v) (leads_to file z) blank_move n to
    tally_moves e =
        let w = t.one e in
        let x = w.2 in
        tally_words t (λ b. absurd (omega (arith, leads w.0 x.below, w.3, l.ranges.few_states))) (λ b. absurd (e b))
        (λ q f _ is. (of_rest k (subst (HoldsAt file z v) is f.holds)).none w.0 (record { after = evolution file z k x.rule x.worded; below = x.below }) (from file z k x.rule x.worded) x.holds)

  pub tally_all : {to : ℕ} → Tally (Applies file z s v) (leads_to file z) (rest_of z.worded s) n to → Tally (Fires file z s v) (leads_to file z) blank_move n to
  tally_all {to} t = by (dec_lt s z.worded) (ℕ_discrete to s)
    where
      by : Dec (s < z.worded) → Dec (to ≡ s) → Tally (Fires file z s v) (leads_to file z) blank_move n to
      by (yes k) (yes e) = tally_rests k (rw (lt-ltb s z.worded k) at t) e
      by (yes k) (no e) = tally_moves k (rw (lt-ltb s z.worded k) at t) e
      by (no k) d = tally_words (rw (le-ltb s z.worded (omega arith)) at t) (λ e. e) (λ e. e) (λ q f b _. k b)

-- (s, v) is the only couple of its number
module _ {file : List ℕ} {z : Sizes} {m s v n to : ℕ} (h : v < m) (t : Tally (Fires file z s v) (leads_to file z) blank_move n to) (all : records z ≤ n) where
  here : (P : ℕ → ℕ → Type 0) (s' v' : ℕ) → Couple z.states m s' v' (s * m + v) → P s' v' → P s v
  here P s' v' k x = let a = same_couple m s s' h k.setting k.number in subst₂ P (sym a.0) (sym a.1) x

  there : (P : ℕ → ℕ → Type 0) (s' v' : ℕ) → Couple z.states m s' v' (s * m + v) → P s v → P s' v'
  there P s' v' k x = let a = same_couple m s s' h k.setting k.number in subst₂ P a.0 a.1 x

  pub no_two : TwoRules file z m (s * m + v) → ⊥
  no_two x =
      let w = here (λ s v. Two (Fires file z s v)) x.s x.v x.couple x.two in
      t.single w.low w.high w.differ (lt_of_lt_of_le w.other.below all) w.one w.other

  pub tally_noted : Noted file z m (s * m + v) to
  tally_noted =
      record {
        none = λ e s' v' k r f. t.none e r (lt_of_lt_of_le f.below all) (here (λ s v. Fires file z s v r) s' v' k f);
        some = λ e. record {
          move = λ s' v' k.
              let w = t.one e in
              record { rule = w.0; fires = there (λ s v. Fires file z s v w.0) s' v' k w.2; leads = w.3 };
        };
      }

-- when a becomes b, what filled the first t elements fills the first k
pub record Onward (Value : ℕ → ℕ → Type 0) (t k : ℕ) (a b : List ℕ) : Type 0 where
  pub since : (e : List ℕ) → Filled t Value e a → Filled k Value e b

module _ {Value : ℕ → ℕ → Type 0} {t k : ℕ} {a : List ℕ} where
  pub onward_start : t ≡ k → Onward Value t k a a
  onward_start e = record { since = λ _ f. filled_at f e }

  pub onward_more : {b : List ℕ} {x l : ℕ} → Onward Value t k a b → k < length b → Value k x → k + 1 ≡ l → Onward Value t l a (set b k x)
  onward_more o h y e = record { since = λ e' f. let g = o.since e' f in filled_at (filled_more g (omega (arith, g.same_length)) y) e }
