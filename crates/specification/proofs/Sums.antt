-- Sums of conditions and their negation: the tree of conditions joined by `+` is that of all their terms, by induction on the terms of the
-- first; so the text `!(` … `+` … `)` of conditions that read has a tree, and it says that none of them holds.
use mathlib.Core.Path.{◌≡◌, refl, sym, ap, ap₂, subst, ◌∙◌}
use mathlib.Core.Bool.{Bool, true, false, cond, ◌||◌, or_assoc}
use mathlib.Core.Logic.{⊎_elim, ◌⊎◌, inl, inr}
use mathlib.Core.List.Memᴰ
use mathlib.Core.List.{List, [], ◌∷◌, ◌++◌, append_assoc, Memᴰ}
use Prim.Native.Char.{code}
use Prim.Native.Nat.{ℕ, ◌≤◌}
use Rattle.verdict.specs.Checks.{Decides}
use Rattle.verdict.proofs.Tests.{it_holds, decides_true, decides_map, decides_not, decides_either, decides_is}
use Rattle.condition.specs.Grammar.{condition, Tree, one, more, bang, paren, on, text, opened, Below, holds}
use Rattle.condition.specs.Condition.{parentheses, Reads, Holds}
use Rattle.condition.proofs.Trees.{one_tree}
use Rattle.specification.specs.Rests.{summed, negated}

-- w is the text of a tree at n inputs which says at v whether P; how many parentheses it opens is not asked
pub record Means (n v : ℕ) (w : List ℕ) (P : Type 0) : Type 0 where
  pub tree : Tree condition
  pub spelt : text tree ≡ w
  pub known : Below n tree
  pub says : Decides P (holds v tree)

-- one of the conditions holds
abbrev Some : ℕ → ℕ → List (List ℕ) → Type 0
Some n v ts = (t : List ℕ) × Memᴰ t ts × Holds n v t

or_else : (a b : Bool) → cond a true b ≡ a || b
or_else true b = refl
or_else false b = refl

-- the terms of t, then those of u
record Plus (n v : ℕ) (t u : Tree condition) : Type 0 where
  tree : Tree condition
  spelt : text tree ≡ text t ++ code "+" ∷ text u
  known : Below n t → Below n u → Below n tree
  says : holds v tree ≡ holds v t || holds v u

module _ {n v : ℕ} where
  plus : (t u : Tree condition) → Plus n v t u
  unfolding text Below holds
  plus (one t) u = record { tree = more t u; spelt = refl; known = λ a b. (a, b); says = refl }
  plus (more t t') u =
      let x = plus t' u in
      record {
        tree = more t x.tree;
        spelt = ap (λ w. text t ++ code "+" ∷ w) x.spelt ∙ sym (append_assoc (text t) (code "+" ∷ text t') (code "+" ∷ text u));
        known = λ a b. (a.0, x.known a.1 b);
        says = ap (holds v t ||◌) x.says ∙ sym (or_assoc (holds v t) (holds v t') (holds v u));
      }

  pub means_map : {w : List ℕ} {P Q : Type 0} → (P → Q) → (Q → P) → Means n v w P → Means n v w Q
  means_map f g x = record { tree = x.tree; spelt = x.spelt; known = x.known; says = decides_map f g x.says }

  -- a text has one tree
  same_tree : {w : List ℕ} (t : Tree condition) → text t ≡ w → Holds n v w → holds v t ≡ true
  same_tree t e h = ap (holds v) (one_tree t h.reads.tree (e ∙ sym h.reads.spelt)) ∙ h.true_there

  -- one condition, two joined by `+`, and a negated one
  means_one : {w : List ℕ} → Reads n w → Means n v w (Holds n v w)
  means_one x = record {
    tree = x.tree;
    spelt = x.spelt;
    known = x.known;
    says = decides_map (λ e. record { reads = x; true_there = e }) (same_tree x.tree x.spelt) (decides_true (holds v x.tree));
  }

  means_plus : {w u : List ℕ} {P Q : Type 0} → Means n v w P → Means n v u Q → Means n v (w ++ code "+" ∷ u) (P ⊎ Q)
  means_plus {P = P} {Q} x y =
      let z = plus x.tree y.tree in
      record {
        tree = z.tree;
        spelt = z.spelt ∙ ap₂ (λ w u. w ++ code "+" ∷ u) x.spelt y.spelt;
        known = z.known x.known y.known;
        says = subst (Decides (P ⊎ Q)) (or_else (holds v x.tree) (holds v y.tree) ∙ sym z.says) (decides_either x.says y.says);
      }

  means_not : {w : List ℕ} {P : Type 0} → Means n v w P → Means n v (code "!" ∷ code "(" ∷ w ++ code ")" ∷ []) (P → ⊥)
  unfolding text Below holds
  means_not x = record {
    tree = one (one (bang (paren x.tree)));
    spelt = ap (λ w. code "!" ∷ code "(" ∷ w ++ code ")" ∷ []) x.spelt;
    known = x.known;
    says = decides_not x.says;
  }

  means_sum : (t : List ℕ) (us : List (List ℕ)) → ((u : List ℕ) → Memᴰ u (t ∷ us) → Reads n u) → Means n v (summed t us) (Some n v (t ∷ us))
  means_sum t [] reads = means_map
      (λ h. (t, Memᴰ.head refl, h))
      (λ x. subst (Holds n v) (Memᴰ.eq_of_singleton x.1) x.2)
      (means_one (reads t (Memᴰ.head refl)))
  means_sum t (u ∷ us) reads = means_map
      (⊎_elim (λ h. (t, Memᴰ.head refl, h)) (λ x. (x.0, Memᴰ.tail x.1, x.2)))
      (λ x. ⊎_elim (λ e. inl (subst (Holds n v) e x.2)) (λ m. inr (x.0, m, x.2)) (Memᴰ.cases_cons x.1))
      (means_plus (means_one (reads t (Memᴰ.head refl))) (means_sum u us (λ w m. reads w (Memᴰ.tail m))))

  -- the negated sum says that none does
  pub means_negated : (ts : List (List ℕ)) → ((t : List ℕ) → Memᴰ t ts → Reads n t) → Means n v (negated ts) ((t : List ℕ) → Memᴰ t ts → Holds n v t → ⊥)
  unfolding text Below holds
  means_negated [] reads = record { tree = one (one on); spelt = refl; known = tt; says = it_holds (λ t m _. Memᴰ.not-nil m) }
  means_negated (t ∷ ts) reads = means_map (λ n t m h. n (t, m, h)) (λ n x. n x.0 x.1 x.2) (means_not (means_sum t ts reads))

  -- a text that means P, within the limit of parentheses, reads, and holds exactly where P
  module _ {w : List ℕ} {P : Type 0} (x : Means n v w P) (nested : (t : Tree condition) → text t ≡ w → opened t ≤ parentheses) where
    pub means_reads : Reads n w
    means_reads = record { tree = x.tree; spelt = x.spelt; nested = nested x.tree x.spelt; known = x.known }

    pub means_holds : P → Holds n v w
    unfolding means_reads
    means_holds p = record { reads = means_reads; true_there = decides_is x.says p }

  pub holds_means : {w : List ℕ} {P : Type 0} → Means n v w P → Holds n v w → P
  holds_means x h = x.says.holds (same_tree x.tree x.spelt h)
