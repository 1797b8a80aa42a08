-- What a function that reads a part finds, from what those that it calls find: for each, what it finds where they find theirs, and
-- that it fails, at the same place, where they fail.
use Rattle.std.specs.Prelude.{◌==◌, eqb, ◌%◌}
use Rattle.std.specs.List.{prefix_len}
use Rattle.std.proofs.lemmas.Bool.{eqb-true, eq-eqb, false≢true}
use Rattle.std.proofs.lemmas.List.Sums.{prefix_len_stops}
use Rattle.std.proofs.lemmas.List.{drop-drop, get_or-drop, length-replicate}
use Prim.Native.Nat.{ℕ, suc, ◌+◌, ◌≤◌, ◌<◌}
use Prim.Native.Char.{code}
use mathlib.Core.Path.{◌≡◌, refl, sym, ap, ap₂, subst, ◌∙◌}
use mathlib.Core.Bool.{Bool, true, false, not, beq, cond}
use mathlib.Core.List.{List, [], ◌∷◌, ◌++◌, append_assoc, append-nil}
use native.Mathlib.Omega.{arith}
use lib.ListN.{length, take, drop, replicate, get_or, length-append, length-drop, drop_of_length-le}
use lib.Seq.{take-append-add, take-append_seam}
use Rattle.machine.specs.Limits.{most_inputs}
use Rattle.machine.specs.Couples.{input as input_of}
use Rattle.condition.specs.Grammar.{Level, Join, or, and, factor, joined, part, byte, joins, condition, Tree, one, off, on, input, text, holds, opened, Below}
use Rattle.condition.specs.inner.Parts.{At, Ends, NotFirst, Reading, FoundTo, Failed, FailedAt}
use Rattle.condition.proofs.Trees.{same, close_ends}
use Rattle.condition.proofs.Lists.{at_front, not_front, agree_front, none_same, first_same, ends_same, not_first_same}
use Rattle.condition.proofs.Readings.{nothing, enclosed, inside, no_single, of_same, before, alone, first, wrap, wrap_says, strip, chain_says, chained, split}

-- where a part that was found ends
pub span : {l : Level} {n v d : ℕ} {s : List ℕ} {at : ℕ} {b : Bool} {end : ℕ} (x : FoundTo l n v d s at b end) → end ≡ at + length (text x.reading.tree)
span x = omega (arith, simp (length-append, length-drop) at (ap length x.reading.spelt), x.later, x.within)

-- failing: a list that is equal, one with something before it, and a join whose part fails
fails_same : {l : Level} {n d m : ℕ} {w w' : List ℕ} → w ≡ w' → Failed l n d w' m → Failed l n d w m
fails_same {l} {n} {d} {m} e f = subst (λ (u : List ℕ). Failed l n d u m) (sym e) f

fails_behind : {l : Level} {n d m : ℕ} {w : List ℕ} (p : List ℕ) → ((u r : List ℕ) → Reading l n d u r → Reading l n d (p ++ u) r)
    → ((u r : List ℕ) → Ends l r → Reading l n d (p ++ u) r → Reading l n d u r) → Failed l n d w m → Failed l n d (p ++ w) (length p + m)
fails_behind {m = m} {w = w} p puts takes f = record {
  short = simp length-append (omega (arith, f.short));
  alive =
      let q = f.alive.0 in
      (q, of_same (ap (◌++ q) (take-append-add p w m) ∙ append_assoc p (take m w) q) refl (puts (take m w ++ q) [] f.alive.1));
  dead = λ w' r e h x.
      let q = agree_front p w' w (length p + m) m refl e in
      f.dead q.0 r q.2 h (takes q.0 r h (of_same (sym q.1) refl x));
}

part_fails : (j : Join) {n d m : ℕ} {w : List ℕ} → Failed (part j) n d w m → Failed (joined j) n d w m
part_fails j f = record {
  short = f.short;
  alive = (f.alive.0, alone f.alive.1);
  dead = λ w' r e h x. let z = first x.tree r h x.spelt x.nested x.known in f.dead w' z.0 e z.1 z.2;
}

-- a factor that fails at its first character
fails_here : {n d : ℕ} (s : List ℕ) (at : ℕ) → ((w r : List ℕ) → take 1 w ≡ take 1 (drop at s) → Reading factor n d w r → ⊥) → FailedAt factor n d s at at
unfolding text opened Below
fails_here s at none = record {
  passed = 0;
  count = omega arith;
  failed = record {
    short = omega arith;
    alive = (code "0" ∷ [], record { tree = off; spelt = refl; nested = omega arith; known = tt });
    dead = λ w r e u x. none w r e x;
  };
}

pub end_fails : {n d : ℕ} (s : List ℕ) (at : ℕ) → length s ≤ at → FailedAt factor n d s at at
end_fails s at h = fails_here s at (λ w r e x. nothing (none_same w e (drop_of_length-le s h)) x)

-- one character
module _ {n : ℕ} {s : List ℕ} {at c : ℕ} (here : At s at c) where
  single_found : {v d : ℕ} {b : Bool} (t : Tree factor) → text t ≡ c ∷ [] → opened t ≡ 0 → Below n t → holds v t ≡ b
      → FoundTo factor n v d s at b (at + 1)
  single_found t spelt nested known says = record {
    later = omega arith;
    within = omega (arith, here.within);
    ends = tt;
    reading = record {
      tree = t;
      spelt = at_front here ∙ ap (◌++ drop (at + 1) s) (sym spelt);
      nested = omega (arith, nested);
      known = known;
    };
    value = says;
  }

  pub off_found : {v d : ℕ} → c ≡ code "0" → FoundTo factor n v d s at false (at + 1)
  unfolding text opened Below holds
  off_found e = single_found off (ap (◌∷ []) (sym e)) refl tt refl

  pub on_found : {v d : ℕ} → c ≡ code "1" → FoundTo factor n v d s at true (at + 1)
  unfolding text opened Below holds
  on_found e = single_found on (ap (◌∷ []) (sym e)) refl tt refl

  pub input_found : {v d : ℕ} (k : ℕ) → c ≡ code "a" + k → (k < n) × (k < most_inputs) → FoundTo factor n v d s at (eqb (input_of v k) 1) (at + 1)
  unfolding text opened Below holds
  input_found k e h = single_found (input k) (ap (◌∷ []) (sym e)) refl h refl

  pub single_fails : {d : ℕ} → (At s at (code "!") → ⊥) → (c ≡ code "(" → ⊥) → (c ≡ code "0" → ⊥) → (c ≡ code "1" → ⊥)
      → ((k : ℕ) → (k < n) × (k < most_inputs) → c ≡ code "a" + k → ⊥) → FailedAt factor n d s at at
  single_fails bang-not open-not off-not on-not letter-not =
      fails_here s at (λ w r e x.
      no_single (λ q. bang-not (record { within = here.within; is = here.is ∙ q })) open-not off-not on-not letter-not
      x.tree r (sym (first_same w e (at_front here)).1 ∙ x.spelt) x.known)

-- the `!` that a list begins with
abbrev pub leading : List ℕ → ℕ
leading w = prefix_len (λ c. c == code "!") w

leads_more : (c : ℕ) (w : List ℕ) (b : Bool) → eqb c (code "!") ≡ b → w ≡ replicate (leading w) (code "!") ++ drop (leading w) w
    → c ∷ w ≡ replicate (cond b (1 + leading w) 0) (code "!") ++ drop (cond b (1 + leading w) 0) (c ∷ w)
leads_more c w true e h =
    let one : suc (leading w) ≡ 1 + leading w = omega arith in
    subst (λ (k : ℕ). c ∷ w ≡ replicate k (code "!") ++ drop k (c ∷ w)) one (ap₂ ◌∷◌ (eqb-true c (code "!") e) h)
leads_more c w false e h = refl

leads : (w : List ℕ) → w ≡ replicate (leading w) (code "!") ++ drop (leading w) w
leads [] = refl
leads (c ∷ w) = leads_more c w (eqb c (code "!")) refl (leads w)

spelt : (s : List ℕ) (at k : ℕ) → k ≡ leading (drop at s) → drop at s ≡ replicate k (code "!") ++ drop (at + k) s
spelt s at k is = subst (λ (i : ℕ). drop at s ≡ replicate i (code "!") ++ drop i (drop at s)) (sym is) (leads (drop at s)) ∙ ap (replicate k (code "!") ++◌) (drop-drop k at s)

-- behind them stands none
pub behind : (s : List ℕ) (at k : ℕ) → k ≡ leading (drop at s) → At s (at + k) (code "!") → ⊥
behind s at k is h =
    let l : leading (drop at s) < length (drop at s) = simp length-drop (omega (arith, h.within)) in
    let e : get_or (drop at s) (leading (drop at s)) 0 ≡ code "!" = get_or-drop at s (leading (drop at s)) 0 ∙ ap (λ (i : ℕ). get_or s (at + i) 0) (sym is) ∙ h.is in
    false≢true (sym (prefix_len_stops (λ c. c == code "!") (drop at s) 0 l) ∙ eq-eqb _ _ e)

-- a factor behind `!`
module _ {n d : ℕ} {s : List ℕ} {at k : ℕ} (is : k ≡ leading (drop at s)) where
  pub negated_found : {v : ℕ} {b : Bool} {end : ℕ} → FoundTo factor n v d s (at + k) b end → FoundTo factor n v d s at (not (beq b (eqb (k % 2) 1))) end
  unfolding of_same
  negated_found {v} {b} {end} x = record {
    later = omega (arith, x.later);
    within = x.within;
    ends = tt;
    reading = of_same (spelt s at k is) refl (wrap k x.reading);
    value = wrap_says k v x.reading ∙ ap (λ (c : Bool). not (beq c (eqb (k % 2) 1))) x.value;
  }

  pub negated_fails : {place : ℕ} → FailedAt factor n d s (at + k) place → FailedAt factor n d s at place
  negated_fails f = record {
    passed = length (replicate k (code "!")) + f.passed;
    count = omega (arith, f.count, length-replicate k (code "!"));
    failed = fails_same (spelt s at k is) (fails_behind (replicate k (code "!")) (λ u r x. wrap k x) (λ u r h x. strip k x) f.failed);
  }

-- a condition in parentheses: closed, failing inside them, not closed, and a parenthesis too many
module _ {n d : ℕ} {s : List ℕ} {at : ℕ} (here : At s at (code "(")) where
  pub one_too_many : d ≡ 0 → FailedAt factor n d s at at
  one_too_many h = fails_here s at (λ w r e x. let y = (inside {d' = 0} (omega arith) (first_same w e (at_front here)).1 x).0 in omega arith)

  module _ {d' : ℕ} (h : d ≡ suc d') where
    pub closed_found : {v : ℕ} {b : Bool} {end : ℕ} → FoundTo condition n v d' s (at + 1) b end → At s end (code ")") → FoundTo factor n v d s at b (end + 1)
    unfolding enclosed of_same holds
    closed_found x close = record {
      later = omega (arith, x.later);
      within = omega (arith, close.within);
      ends = tt;
      reading = of_same (at_front here) refl (enclosed (omega arith) (of_same refl (at_front close) x.reading));
      value = x.value;
    }

    pub inside_fails : {place : ℕ} → FailedAt condition n d' s (at + 1) place → FailedAt factor n d s at place
    inside_fails f =
        let w = drop (at + 1) s in
        let m = f.passed in
        let q = f.failed.alive.0 in
        let y = f.failed.alive.1 in
        let closed : take m w ++ (q ++ code ")" ∷ []) ≡ text y.tree ++ code ")" ∷ [] =
        sym (append_assoc (take m w) q (code ")" ∷ [])) ∙ ap (◌++ code ")" ∷ []) (y.spelt ∙ append-nil (text y.tree)) in
        record {
          passed = suc m;
          count = omega (arith, f.count);
          failed = fails_same (at_front here) (record {
            short = omega (arith, f.failed.short);
            alive = (q ++ code ")" ∷ [], enclosed (omega arith) (of_same closed refl (before y (code ")" ∷ []))));
            dead = λ w' r a u x.
                let z = agree_front (code "(" ∷ []) w' w (suc m) m (omega arith) a in
                f.failed.dead z.0 (code ")" ∷ r) z.2 (close_ends r) (inside (omega arith) z.1 x).1;
          });
        }

    pub unclosed_fails : {v : ℕ} {b : Bool} {end : ℕ} → FoundTo condition n v d' s (at + 1) b end → (At s end (code ")") → ⊥) → FailedAt factor n d s at end
    unfolding before
    unclosed_fails {end = end} f not-close =
        let x = f.reading in
        let r = drop end s in
        let t = text x.tree in
        let p : List ℕ = code "(" ∷ t in
        record {
          passed = length p;
          count = omega (arith, span f);
          failed = fails_same (at_front here ∙ ap (code "(" ∷◌) x.spelt) (record {
            short = simp length-append (omega arith);
            alive = (code ")" ∷ [], of_same (ap (◌++ code ")" ∷ []) (take-append_seam p r)) refl (enclosed (omega arith) (before x (code ")" ∷ []))));
            dead = λ w' r' a u y.
                let z = agree_front p w' r (length p) 0 (omega arith) a in
                let c : Reading condition n d' (t ++ z.0) (code ")" ∷ r') = (inside (omega arith) z.1 y).1 in
                let q = same x.tree c.tree z.0 (code ")" ∷ r') (ends_same condition z.0 r z.2 f.ends) (close_ends r') c.spelt in
                not_first_same (code ")") z.0 r z.2 (not_front not-close) r' q.1;
          });
        }

-- parts joined by j, at least one, stand from `at` to `end`, where the last of them ends, and they say b
pub record Joined (j : Join) (n v d : ℕ) (s : List ℕ) (at : ℕ) (b : Bool) (end : ℕ) : Type 0 where
  pub later : at < end
  pub within : end ≤ length s
  pub ends : Ends (part j) (drop end s)
  pub reading : Reading (joined j) n d (drop at s) (drop end s)
  pub value : holds v reading.tree ≡ b

joined_span : {j : Join} {n v d : ℕ} {s : List ℕ} {at : ℕ} {b : Bool} {end : ℕ} (x : Joined j n v d s at b end) → end ≡ at + length (text x.reading.tree)
joined_span x = omega (arith, simp (length-append, length-drop) at (ap length x.reading.spelt), x.later, x.within)

ends_both : (j : Join) (r : List ℕ) → Ends (part j) r → NotFirst (byte j) r → Ends (joined j) r
ends_both or r e h = (e, h)
ends_both and r e h = h

-- a join: its first part, one more part, its last part, and a part that fails
module _ (j : Join) {n d : ℕ} {s : List ℕ} {at : ℕ} where
  pub join_first : {v : ℕ} {b : Bool} {end : ℕ} → FoundTo (part j) n v d s at b end → Joined j n v d s at b end
  unfolding holds alone
  join_first x = record { later = x.later; within = x.within; ends = x.ends; reading = alone x.reading; value = x.value }

  pub join_none : {place : ℕ} → FailedAt (part j) n d s at place → FailedAt (joined j) n d s at place
  join_none f = record { passed = f.passed; count = f.count; failed = part_fails j f.failed }

  module _ {v : ℕ} {b : Bool} {end : ℕ} (x : Joined j n v d s at b end) where
    pub join_found : (At s end (byte j) → ⊥) → FoundTo (joined j) n v d s at b end
    join_found ne = record { later = x.later; within = x.within; ends = ends_both j (drop end s) x.ends (not_front ne); reading = x.reading; value = x.value }

    pub join_more : {b' : Bool} {end' : ℕ} → At s end (byte j) → FoundTo (part j) n v d s (end + 1) b' end' → Joined j n v d s at (joins j b b') end'
    unfolding holds alone of_same chained
    join_more {b'} {end'} h y = record {
      later = omega (arith, x.later, y.later);
      within = y.within;
      ends = y.ends;
      reading = chained (of_same refl (at_front h) x.reading) (alone y.reading);
      value = chain_says v x.reading.tree (one y.reading.tree) ∙ ap₂ (joins j) x.value y.value;
    }

    pub join_fails : {place : ℕ} → At s end (byte j) → FailedAt (part j) n d s (end + 1) place → FailedAt (joined j) n d s at place
    unfolding before
    join_fails h f =
        let t = text x.reading.tree in
        let snoc : (u : List ℕ) → (t ++ byte j ∷ []) ++ u ≡ t ++ byte j ∷ u = λ u. append_assoc t (byte j ∷ []) u in
        record {
          passed = length (t ++ byte j ∷ []) + f.passed;
          count = omega (arith, f.count, joined_span x, length-append t (byte j ∷ []));
          failed = fails_same (x.reading.spelt ∙ ap (t ++◌) (at_front h) ∙ sym (snoc (drop (end + 1) s))) (fails_behind (t ++ byte j ∷ [])
              (λ u r y. of_same (snoc u) refl (chained (before x.reading (byte j ∷ u)) y))
              (λ u r e y. split x.reading.tree u y.tree r e (sym (snoc u) ∙ y.spelt) y.nested y.known)
              (part_fails j f.failed));
        }

-- where a part is to be read next: at the beginning, with what changes nothing, or behind the parts before it and the byte that joins it to them
pub data Begun (j : Join) (n v d : ℕ) (s : List ℕ) (at : ℕ) (b : Bool) (from : ℕ) : Type 0 where
  none : from ≡ at → ((c : Bool) → joins j b c ≡ c) → Begun j n v d s at b from
  some : {end : ℕ} → from ≡ end + 1 → Joined j n v d s at b end → At s end (byte j) → Begun j n v d s at b from

module _ (j : Join) {n v d : ℕ} {s : List ℕ} {at : ℕ} {b : Bool} {from : ℕ} where
  pub begun_more : {c : Bool} {end : ℕ} → Begun j n v d s at b from → FoundTo (part j) n v d s from c end → Joined j n v d s at (joins j b c) end
  begun_more {c} (none e u) y = rw (u c) (join_first j (rw e at y))
  begun_more (some e x h) y = join_more j x h (rw e at y)

  pub begun_fails : {place : ℕ} → Begun j n v d s at b from → FailedAt (part j) n d s from place → FailedAt (joined j) n d s at place
  begun_fails (none e u) f = join_none j (rw e at f)
  begun_fails (some e x h) f = join_fails j x h (rw e at f)
