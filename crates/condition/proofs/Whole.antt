-- What `read` says of a text, from what is found from its start: a condition that ends where the text ends is the one it reads as. Where
-- one ends sooner, or none begins, reading stops there: no text that has one character more of it, or its end, reads, since what stands
-- at its front is one tree.
use Rattle.std.specs.Prelude.{Ok, Err}
use Prim.Native.Nat.{ℕ, suc, ◌+◌}
use mathlib.Core.Path.{◌≡◌, sym, ap, ◌∙◌}
use mathlib.Core.Bool.{Bool}
use mathlib.Core.List.{List, [], ◌++◌, append-nil}
use native.Mathlib.Omega.{arith}
use lib.ListN.{length, take, drop, length-drop, drop_of_length-le}
use lib.Seq.{take-append_seam}
use Rattle.condition.specs.Grammar.{condition, text}
use Rattle.condition.specs.Condition.{parentheses, Reads, Says}
use Rattle.condition.specs.inner.Parts.{Reading, FoundTo, FailedAt}
use Rattle.condition.proofs.Trees.{same, nothing_ends}
use Rattle.condition.proofs.Lists.{agree_front, ends_same, none_same}
use Rattle.condition.proofs.Parts.{span}
use Rattle.condition.proofs.Characters.{read_on, stops}
use Rattle.condition.proofs.Says.{value_says, unread_says}

-- a text that reads is a reading up to its end, and the text of a reading reads
all_of : {n : ℕ} {w : List ℕ} → Reads n w → Reading condition n parentheses w []
all_of x = record { tree = x.tree; spelt = sym x.spelt ∙ sym (append-nil (text x.tree)); nested = x.nested; known = x.known }

unfoldable reads_as : {n : ℕ} {w r u : List ℕ} (x : Reading condition n parentheses w r) → text x.tree ≡ u → Reads n u
reads_as x e = record { tree = x.tree; spelt = e; nested = x.nested; known = x.known }

module _ {n v : ℕ} (w : List ℕ) where
  pub whole : {b : Bool} {end : ℕ} → end ≡ length w → FoundTo condition n v parentheses w 0 b end → Says n v w (Ok b)
  unfolding reads_as
  whole {end = end} e x =
      let t = text x.reading.tree in
      let z : drop end w ≡ [] = drop_of_length-le w {i = end} (omega arith) in
      value_says (reads_as x.reading (sym (x.reading.spelt ∙ ap (t ++◌) z ∙ append-nil t))) x.value

  pub not_whole : {b : Bool} {end : ℕ} → (end ≡ length w → ⊥) → FoundTo condition n v parentheses w 0 b end → Says n v w (Err (record { character = end + 1 }))
  not_whole {end = end} ne x =
      let t = x.reading.tree in
      let r = drop end w in
      let end_is : end ≡ length (text t) = omega (arith, span x) in
      let start : take end w ≡ text t = ap (take end) x.reading.spelt ∙ ap (λ (i : ℕ). take i (text t ++ r)) end_is ∙ take-append_seam (text t) r in
      unread_says (stops x.within
      (read_on (reads_as x.reading (sym start)))
      (λ w' e y.
      let z = all_of y in
      let q = agree_front (text t) w' r end 0 (omega arith) (e ∙ ap (take (suc end)) x.reading.spelt) in
      let u = (same t z.tree q.0 [] (ends_same condition q.0 r q.2 x.ends) nothing_ends (sym q.1 ∙ z.spelt)).1 in
      ne (omega (arith, simp length-drop at (ap length (none_same r (sym q.2) u)), x.within))))

  pub none : {place : ℕ} → FailedAt condition n parentheses w 0 place → Says n v w (Err (record { character = place + 1 }))
  none {place} f =
      let y = f.failed in
      let x = y.alive.1 in
      let e : place ≡ f.passed = omega (arith, f.count) in
      unread_says (rw e (stops y.short (record { behind = y.alive.0; reads = reads_as x (sym (x.spelt ∙ append-nil (text x.tree))) })
      (λ w' e u. y.dead w' [] e nothing_ends (all_of u))))
