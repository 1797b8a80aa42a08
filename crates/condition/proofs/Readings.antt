-- How a reading of a part is made of readings of its own parts, and taken apart again: `!`, parentheses, one character, and a loop over
-- what a join joins. By the grammar's cases; that the parts are the same ones is `same`.
use Prim.Native.Nat.{ℕ, zero, suc, ◌+◌, ◌≤◌, ◌<◌}
use Prim.Native.Char.{code}
use lib.ListN.{replicate}
use mathlib.Core.Path.{◌≡◌, refl, sym, ap, ◌∙◌}
use Rattle.std.specs.Prelude.{eqb, ◌%◌}
use mathlib.Core.Bool.{Bool, true, false, not, beq, not-not}
use mathlib.Core.List.{List, [], ◌∷◌, ◌++◌, append_assoc, head-eq_of_cons-eq, tail-eq_of_cons-eq}
use native.Mathlib.Omega.{arith}
use Rattle.machine.specs.Limits.{most_inputs}
use Rattle.condition.specs.Grammar.{Level, Join, or, and, factor, joined, part, byte, joins, condition, Tree, one, more, bang, paren, off, on, input, text, opened, Below, holds}
use Rattle.condition.specs.inner.Parts.{Ends, Reading}
use Rattle.condition.proofs.Texts.{some}
use Rattle.condition.proofs.Trees.{same, ends_part, ends_join, join_ends}

-- nothing is read of an empty list
pub nothing : {l : Level} {n d : ℕ} {w r : List ℕ} → w ≡ [] → Reading l n d w r → ⊥
nothing {r = r} e x = some x.tree r (sym e ∙ x.spelt)

-- a reading is one of equal lists
unfoldable pub of_same : {l : Level} {n d : ℕ} {w w' r r' : List ℕ} → w ≡ w' → r ≡ r' → Reading l n d w' r → Reading l n d w r'
of_same e e' x = record { tree = x.tree; spelt = e ∙ x.spelt ∙ ap (text x.tree ++◌) e'; nested = x.nested; known = x.known }

-- the same tree before something else
unfoldable pub before : {l : Level} {n d : ℕ} {w r : List ℕ} (x : Reading l n d w r) (u : List ℕ) → Reading l n d (text x.tree ++ u) u
before x u = record { tree = x.tree; spelt = refl; nested = x.nested; known = x.known }

-- `!`: a factor behind one
unfoldable pub banged : {n d : ℕ} {w r : List ℕ} → Reading factor n d w r → Reading factor n d (code "!" ∷ w) r
unfolding text opened Below
banged x = record { tree = bang x.tree; spelt = ap (code "!" ∷◌) x.spelt; nested = x.nested; known = x.known }

unbang : {n d : ℕ} {w : List ℕ} (t : Tree factor) (r : List ℕ) → code "!" ∷ w ≡ text t ++ r → opened t ≤ d → Below n t → Reading factor n d w r
unfolding text opened Below
unbang (bang t) r e o b = record { tree = t; spelt = tail-eq_of_cons-eq e; nested = o; known = b }
unbang (paren t) r e o b = absurd (omega (arith, head-eq_of_cons-eq e))
unbang off r e o b = absurd (omega (arith, head-eq_of_cons-eq e))
unbang on r e o b = absurd (omega (arith, head-eq_of_cons-eq e))
unbang (input k) r e o b = absurd (omega (arith, head-eq_of_cons-eq e))

-- k of them before a factor
unfoldable pub wrap : (k : ℕ) {n d : ℕ} {w r : List ℕ} → Reading factor n d w r → Reading factor n d (replicate k (code "!") ++ w) r
wrap zero x = x
wrap (suc k) x = banged (wrap k x)

even : (b : Bool) → b ≡ not (beq b false)
even true = refl
even false = refl

odd : (b : Bool) → not b ≡ not (beq b true)
odd true = refl
odd false = refl

pub wrap_says : (k v : ℕ) {n d : ℕ} {w r : List ℕ} (x : Reading factor n d w r)
    → holds v (wrap k x).tree ≡ not (beq (holds v x.tree) (eqb (k % 2) 1))
unfolding holds wrap banged
wrap_says zero v x = even (holds v x.tree)
wrap_says (suc zero) v x = odd (holds v x.tree)
wrap_says (suc (suc k)) v x =
    let e : k % 2 ≡ suc (suc k) % 2 = omega arith in
    not-not (holds v (wrap k x).tree) ∙ wrap_says k v x ∙ ap (λ (i : ℕ). not (beq (holds v x.tree) (eqb i 1))) e

pub strip : (k : ℕ) {n d : ℕ} {w r : List ℕ} → Reading factor n d (replicate k (code "!") ++ w) r → Reading factor n d w r
strip zero x = x
strip (suc k) {r = r} x = strip k (unbang x.tree r x.spelt x.nested x.known)

-- parentheses: a condition between them, at one more open
unfoldable pub enclosed : {n d d' : ℕ} {w r : List ℕ} → suc d' ≤ d → Reading condition n d' w (code ")" ∷ r) → Reading factor n d (code "(" ∷ w) r
unfolding text opened Below
enclosed {r = r} h x = record {
  tree = paren x.tree;
  spelt = ap (code "(" ∷◌) (x.spelt ∙ sym (append_assoc (text x.tree) (code ")" ∷ []) r));
  nested = omega (arith, x.nested);
  known = x.known;
}

unclose : {n d d' : ℕ} {w : List ℕ} (t : Tree factor) (r : List ℕ) → d ≤ suc d' → code "(" ∷ w ≡ text t ++ r → opened t ≤ d → Below n t
    → (1 ≤ d) × Reading condition n d' w (code ")" ∷ r)
unfolding text opened Below
unclose (bang t) r h e o b = absurd (omega (arith, head-eq_of_cons-eq e))
unclose (paren t) r h e o b = (omega arith, record { tree = t; spelt = tail-eq_of_cons-eq e ∙ append_assoc (text t) (code ")" ∷ []) r; nested = omega arith; known = b })
unclose off r h e o b = absurd (omega (arith, head-eq_of_cons-eq e))
unclose on r h e o b = absurd (omega (arith, head-eq_of_cons-eq e))
unclose (input k) r h e o b = absurd (omega (arith, head-eq_of_cons-eq e))

pub inside : {n d d' : ℕ} {w w' r : List ℕ} → d ≤ suc d' → w ≡ code "(" ∷ w' → Reading factor n d w r → (1 ≤ d) × Reading condition n d' w' (code ")" ∷ r)
inside {r = r} h e x = unclose x.tree r h (sym e ∙ x.spelt) x.nested x.known

-- a factor that begins with neither `!` nor `(` is one character: `0`, `1`, or an input letter below n and one of a to h
module _ {n c : ℕ} {w : List ℕ} (bang-not : c ≡ code "!" → ⊥) (open-not : c ≡ code "(" → ⊥) (off-not : c ≡ code "0" → ⊥)
    (on-not : c ≡ code "1" → ⊥) (letter-not : (k : ℕ) → (k < n) × (k < most_inputs) → c ≡ code "a" + k → ⊥) where
  pub no_single : (t : Tree factor) (r : List ℕ) → c ∷ w ≡ text t ++ r → Below n t → ⊥
  unfolding text Below
  no_single (bang t) r e b = bang-not (head-eq_of_cons-eq e)
  no_single (paren t) r e b = open-not (head-eq_of_cons-eq e)
  no_single off r e b = off-not (head-eq_of_cons-eq e)
  no_single on r e b = on-not (head-eq_of_cons-eq e)
  no_single (input k) r e b = letter-not k b (head-eq_of_cons-eq e)

-- joins: one part alone, and a part with what follows its join
unfoldable pub alone : {j : Join} {n d : ℕ} {w r : List ℕ} → Reading (part j) n d w r → Reading (joined j) n d w r
unfolding text opened Below
alone x = record { tree = one x.tree; spelt = x.spelt; nested = x.nested; known = x.known }

-- what a reading of a join begins with, and what is left behind that
pub first : {j : Join} {n d : ℕ} {w : List ℕ} (t : Tree (joined j)) (r : List ℕ) → Ends (joined j) r → w ≡ text t ++ r → opened t ≤ d → Below n t
    → (r' : List ℕ) × Ends (part j) r' × Reading (part j) n d w r'
unfolding text opened Below
first {j} (one t) r h e o b = (r, ends_part j r h, record { tree = t; spelt = e; nested = o; known = b })
first {j} (more t u) r h e o b =
    let e' = e ∙ append_assoc (text t) (byte j ∷ text u) r in
    (byte j ∷ text u ++ r, join_ends j (text u ++ r), record { tree = t; spelt = e'; nested = omega arith; known = b.0 })

rest : {j : Join} {n d : ℕ} (x : Tree (part j)) (w : List ℕ) (t : Tree (joined j)) (r : List ℕ) → Ends (joined j) r
    → text x ++ byte j ∷ w ≡ text t ++ r → opened t ≤ d → Below n t → Reading (joined j) n d w r
unfolding text opened Below
rest {j} x w (one t) r h e o b =
    let q = same x t (byte j ∷ w) r (join_ends j w) (ends_part j r h) e in
    absurd (ends_join j r h w (sym q.1))
rest {j} x w (more t u) r h e o b =
    let q = same x t (byte j ∷ w) (byte j ∷ text u ++ r) (join_ends j w) (join_ends j (text u ++ r)) (e ∙ append_assoc (text t) (byte j ∷ text u) r) in
    record { tree = u; spelt = tail-eq_of_cons-eq q.1; nested = omega arith; known = b.1 }

joins_assoc : (j : Join) (a b c : Bool) → joins j a (joins j b c) ≡ joins j (joins j a b) c
joins_assoc or true b c = refl
joins_assoc or false b c = refl
joins_assoc and true b c = refl
joins_assoc and false b c = refl

-- two joins, one behind the other, as one
unfoldable pub chain : {j : Join} → Tree (joined j) → Tree (joined j) → Tree (joined j)
chain (one t) y = more t y
chain (more t x) y = more t (chain x y)

module _ {j : Join} where
  pub chain_text : (x y : Tree (joined j)) → text (chain x y) ≡ text x ++ byte j ∷ text y
  unfolding text chain
  chain_text (one t) y = refl
  chain_text (more t x) y = ap (λ (u : List ℕ). text t ++ byte j ∷ u) (chain_text x y) ∙ sym (append_assoc (text t) (byte j ∷ text x) (byte j ∷ text y))

  pub chain_opened : {d : ℕ} (x y : Tree (joined j)) → opened x ≤ d → opened y ≤ d → opened (chain x y) ≤ d
  unfolding opened chain
  chain_opened (one t) y h k = omega arith
  chain_opened (more t x) y h k = let q = chain_opened x y (omega arith) k in omega arith

  pub chain_known : (n : ℕ) (x y : Tree (joined j)) → Below n x → Below n y → Below n (chain x y)
  unfolding Below chain
  chain_known n (one t) y h k = (h, k)
  chain_known n (more t x) y h k = (h.0, chain_known n x y h.1 k)

  pub chain_says : (v : ℕ) (x y : Tree (joined j)) → holds v (chain x y) ≡ joins j (holds v x) (holds v y)
  unfolding holds chain
  chain_says v (one t) y = refl
  chain_says v (more t x) y = ap (joins j (holds v t)) (chain_says v x y) ∙ joins_assoc j (holds v t) (holds v x) (holds v y)

  -- a reading of each, and of what is behind the first, from one of both
  unfoldable pub chained : {n d : ℕ} {w w' r : List ℕ} → Reading (joined j) n d w (byte j ∷ w') → Reading (joined j) n d w' r → Reading (joined j) n d w r
  chained {r = r} x y = record {
    tree = chain x.tree y.tree;
    spelt =
        x.spelt ∙ ap (λ (u : List ℕ). text x.tree ++ byte j ∷ u) y.spelt ∙ sym (append_assoc (text x.tree) (byte j ∷ text y.tree) r)
        ∙ ap (◌++ r) (sym (chain_text x.tree y.tree));
    nested = chain_opened x.tree y.tree x.nested y.nested;
    known = chain_known _ x.tree y.tree x.known y.known;
  }

  pub split : {n d : ℕ} (x : Tree (joined j)) (w : List ℕ) (t : Tree (joined j)) (r : List ℕ) → Ends (joined j) r
      → text x ++ byte j ∷ w ≡ text t ++ r → opened t ≤ d → Below n t → Reading (joined j) n d w r
  unfolding text
  split (one x) w t r h e o b = rest x w t r h e o b
  split (more x y) w t r h e o b =
      let z = rest x (text y ++ byte j ∷ w) t r h (sym (append_assoc (text x) (byte j ∷ text y) (byte j ∷ w)) ∙ e) o b in
      split y w z.tree r h z.spelt z.nested z.known
