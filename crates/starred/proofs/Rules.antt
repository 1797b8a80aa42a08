-- A file for which the tree of each text is given: a text has one tree, so that which rules hold at a couple is computed, and with it
-- the moves and refusals 8 and 9.
use mathlib.Core.Path.{◌≡◌, refl, sym, ap, ap₂, subst, subst₂, ◌∙◌}
use mathlib.Core.List.{List, [], ◌∷◌}
use mathlib.Core.Bool.{Bool, true, false, ◌&&◌}
use Prim.Native.Nat.{ℕ, ◌/◌, ◌%◌, ◌≤◌, ◌<◌}
use native.Mathlib.Omega.{arith}
use lib.ListN.{get_or}
use lib.Dec.{eqb, leb, ltb}
use lib.Arith.{digits_div, digits_mod}
use borrow.Author.Tests.{eqb-true, eq-eqb, leb-true, ltb-true}
use Rattle.verdict.specs.Checks.{Decides, Nowhere}
use Rattle.condition.specs.Grammar.{Level, condition, Tree, one, more, bang, paren, off, on, input, text, opened, Below, holds}
use Rattle.condition.specs.Condition.{parentheses, Reads}
use Rattle.condition.proofs.Trees.{one_tree}
use Rattle.machine.specs.Limits.{most_inputs}
use Rattle.machine.specs.Couples.{couple_at, Couple}
use Rattle.machine.specs.Moves.{table_moves}
use Rattle.machine.proofs.Couples.{couple_below}
use Rattle.machine.proofs.Same.{Into}
use Rattle.verdict.proofs.Tests.{true≢false, it_holds, it_fails, decides_map, decides_true, decides_equal, decides_below, ◌also◌, decides_is}
use Rattle.verdict.specs.Below.{every}
use Rattle.verdict.proofs.Below.{decides_every}
use Rattle.specification.specs.Records.{sizes_of, settings, couples, records}
use Rattle.specification.specs.Rules.{text_of, conditions, condition_of, by_text, rule_of, leads_to, Unreads, Fires, TwoRules, NoRule, Moves, MoveAt}
use Rattle.specification.proofs.Conditions.{condition_record}
use Rattle.specification.proofs.Forms.{of_text}

-- two tests say the same
abbrev pub same : Bool → Bool → Bool
same true b = b
same false true = false
same false false = true

pub decides_same : (a b : Bool) → Decides (a ≡ b) (same a b)
decides_same true b = decides_map sym sym (decides_true b)
decides_same false true = it_fails (λ e. true≢false (sym e))
decides_same false false = it_holds refl

both : (a b : Bool) → a && b ≡ true → (a ≡ true) × (b ≡ true)
both true true e = (refl, refl)
both true false e = absurd (true≢false (sym e))
both false b e = absurd (true≢false (sym e))

-- two texts are one
same_text : List ℕ → List ℕ → Bool
same_text [] [] = true
same_text [] (y ∷ ys) = false
same_text (x ∷ xs) [] = false
same_text (x ∷ xs) (y ∷ ys) = eqb x y && same_text xs ys

one_text : (xs ys : List ℕ) → same_text xs ys ≡ true → xs ≡ ys
unfolding same_text
one_text [] [] e = refl
one_text [] (y ∷ ys) e = absurd (true≢false (sym e))
one_text (x ∷ xs) [] e = absurd (true≢false (sym e))
one_text (x ∷ xs) (y ∷ ys) e = let (f, g) = both (eqb x y) (same_text xs ys) e in ap₂ ◌∷◌ (eqb-true x y f) (one_text xs ys g)

-- each letter of a tree is below n, and one of a to h
letters_below : {l : Level} → ℕ → Tree l → Bool
letters_below n (one t) = letters_below n t
letters_below n (more t u) = letters_below n t && letters_below n u
letters_below n (bang t) = letters_below n t
letters_below n (paren t) = letters_below n t
letters_below n off = true
letters_below n on = true
letters_below n (input k) = ltb k n && ltb k most_inputs

letters_below_lem : {l : Level} (n : ℕ) (t : Tree l) → letters_below n t ≡ true → Below n t
unfolding letters_below Below
letters_below_lem n (one t) e = letters_below_lem n t e
letters_below_lem n (more t u) e = let (f, g) = both (letters_below n t) (letters_below n u) e in (letters_below_lem n t f, letters_below_lem n u g)
letters_below_lem n (bang t) e = letters_below_lem n t e
letters_below_lem n (paren t) e = letters_below_lem n t e
letters_below_lem n off e = tt
letters_below_lem n on e = tt
letters_below_lem n (input k) e = let (f, g) = both (ltb k n) (ltb k most_inputs) e in (ltb-true k n f, ltb-true k most_inputs g)

-- at each couple of a file one rule holds, and leads to the state that a table has there
pub record Ruled (file T : List ℕ) : Type 0 where
  pub once : Nowhere (TwoRules file (sizes_of file) (settings (sizes_of file)))
  pub always : Nowhere (NoRule file (sizes_of file) (settings (sizes_of file)))
  pub moves : (p : ℕ) → p < couples (sizes_of file) → MoveAt file (sizes_of file) (settings (sizes_of file)) p (get_or T p 0)
  pub into : Into (sizes_of file).states (settings (sizes_of file)) (Moves file (sizes_of file)) (table_moves T (settings (sizes_of file)))
  pub from : Into (sizes_of file).states (settings (sizes_of file)) (table_moves T (settings (sizes_of file))) (Moves file (sizes_of file))

module _ (file : List ℕ) where
  abbrev pub m : ℕ
  m = settings (sizes_of file)

  abbrev pub tree_of : List (Tree condition) → ℕ → Tree condition
  tree_of trees r = get_or trees r (one (one off))

  -- each record has a condition, and the text of each condition is that of its tree, within the limits
  unfoldable pub spelling : List (Tree condition) → Bool
  unfolding same_text letters_below
  spelling trees = eqb (sizes_of file).worded 0 && every (conditions (sizes_of file)) (λ r.
      same_text (text (tree_of trees r)) (condition_of file (sizes_of file) r) && leb (opened (tree_of trees r)) parentheses && letters_below (sizes_of file).inputs (tree_of trees r))

  module _ (trees : List (Tree condition)) where
    -- record r is a rule of s, and its tree holds at v
    abbrev pub firing : ℕ → ℕ → ℕ → Bool
    firing s v r = eqb (rule_of file (sizes_of file) r) s && holds v (tree_of trees r)

    module _ (spelt : spelling trees ≡ true) where
      worded : (r : ℕ) → (sizes_of file).worded ≤ r
      unfolding spelling
      worded r = omega (arith, eqb-true (sizes_of file).worded 0 (both (eqb (sizes_of file).worded 0) _ spelt).0)

      reads_as : (r : ℕ) → r < conditions (sizes_of file) → {w : List ℕ} → condition_of file (sizes_of file) r ≡ w → Reads (sizes_of file).inputs w
      unfolding spelling
      reads_as r h is =
          let (e, k) = both _ _ ((decides_every (conditions (sizes_of file)) _ _ (λ r. decides_true _)).holds (both (eqb (sizes_of file).worded 0) _ spelt).1 r h) in
          let (t, o) = both _ _ e in
          record { tree = tree_of trees r; spelt = one_text _ _ t ∙ is; nested = leb-true _ _ o; known = letters_below_lem (sizes_of file).inputs (tree_of trees r) k }

      reads : (r : ℕ) → r < records (sizes_of file) → Reads (sizes_of file).inputs (text_of file (sizes_of file) r)
      reads r h = reads_as r (omega arith) (condition_record file (sizes_of file) r h)

      -- refusal 5
      pub none_unread : Nowhere (Unreads file (sizes_of file))
      none_unread = record { nowhere = λ r x. x.unread (reads_as r x.below refl) }

      decides_fires : (s v r : ℕ) → r < records (sizes_of file) → Decides (Fires file (sizes_of file) s v r) (firing s v r)
      unfolding reads reads_as
      decides_fires s v r h = decides_map
          (λ x. record { below = h; rule = x.0; holds = by_text (worded r) (record { reads = reads r h; true_there = x.1 }) })
          (λ x.
          let y = of_text (worded r) x.holds in
          (x.rule, ap (λ t. holds v t) (one_tree _ _ ((reads r h).spelt ∙ sym y.reads.spelt)) ∙ y.true_there))
          (decides_equal _ _ also decides_true (holds v (tree_of trees r)))

      pub fires : (s v r : ℕ) → r < records (sizes_of file) → firing s v r ≡ true → Fires file (sizes_of file) s v r
      fires s v r h = (decides_fires s v r h).holds

      -- for each of the first k couples the one rule that holds there
      module _ (k : ℕ) (rules : List ℕ)
          (exactly : every k (λ p. every (records (sizes_of file)) (λ r. same (firing (p / m) (p % m) r) (eqb r (get_or rules p 0)))) ≡ true) where
        exact : (p : ℕ) → p < k → (r : ℕ) → r < records (sizes_of file) → firing (p / m) (p % m) r ≡ eqb r (get_or rules p 0)
        exact = (decides_every k _ (λ p. (r : ℕ) → r < records (sizes_of file) → firing (p / m) (p % m) r ≡ eqb r (get_or rules p 0))
            (λ p. decides_every (records (sizes_of file)) _ _ (λ r. decides_same _ _))).holds exactly

        -- a couple is that of its quotient and remainder
        here : (s v p r : ℕ) → Couple (sizes_of file).states m s v p → Fires file (sizes_of file) s v r → Fires file (sizes_of file) (p / m) (p % m) r
        here s v p r c x = subst₂ (λ t w. Fires file (sizes_of file) t w r)
            (sym (digits_div s c.setting) ∙ ap (◌/ m) (sym c.number)) (sym (digits_mod s c.setting) ∙ ap (◌% m) (sym c.number)) x

        there : (s v p r : ℕ) → Couple (sizes_of file).states m s v p → Fires file (sizes_of file) (p / m) (p % m) r → Fires file (sizes_of file) s v r
        there s v p r c x = subst₂ (λ t w. Fires file (sizes_of file) t w r)
            (ap (◌/ m) c.number ∙ digits_div s c.setting) (ap (◌% m) c.number ∙ digits_mod s c.setting) x

        the_rule : (s v p r : ℕ) → Couple (sizes_of file).states m s v p → p < k → Fires file (sizes_of file) s v r → r ≡ get_or rules p 0
        the_rule s v p r c h x = eqb-true _ _ (sym (exact p h r x.below) ∙ decides_is (decides_fires _ _ r x.below) (here s v p r c x))

        -- refusal 8 at none of them
        pub none_two : (p : ℕ) → p < k → TwoRules file (sizes_of file) m p → ⊥
        none_two p h x =
            let e = the_rule x.s x.v p x.two.low x.couple h x.two.one in
            let f = the_rule x.s x.v p x.two.high x.couple h x.two.other in
            omega (arith, x.two.differ)

      -- where these are all couples, the rules are records and lead to the states of a table
      module _ (rules T : List ℕ)
          (exactly : every (couples (sizes_of file)) (λ p. every (records (sizes_of file)) (λ r. same (firing (p / m) (p % m) r) (eqb r (get_or rules p 0)))) ≡ true)
          (ranged : every (couples (sizes_of file)) (λ p. ltb (get_or rules p 0) (records (sizes_of file))) ≡ true)
          (leading : every (couples (sizes_of file)) (λ p. eqb (leads_to file (sizes_of file) (get_or rules p 0)) (get_or T p 0)) ≡ true)
          (closed : (p : ℕ) → p < couples (sizes_of file) → get_or T p 0 < (sizes_of file).states) where
        leads : (p : ℕ) → p < couples (sizes_of file) → leads_to file (sizes_of file) (get_or rules p 0) ≡ get_or T p 0
        leads = (decides_every (couples (sizes_of file)) _ _ (λ p. decides_equal _ _)).holds leading

        holding : {s v p : ℕ} → Couple (sizes_of file).states m s v p → Fires file (sizes_of file) s v (get_or rules p 0)
        holding {s} {v} {p} c =
            let h = couple_below c in
            let l = (decides_every (couples (sizes_of file)) _ (λ p. get_or rules p 0 < records (sizes_of file)) (λ p. decides_below _ _)).holds ranged p h in
            there (couples (sizes_of file)) rules exactly s v p (get_or rules p 0) c (fires _ _ (get_or rules p 0) l (exact (couples (sizes_of file)) rules exactly p h (get_or rules p 0) l ∙ eq-eqb (get_or rules p 0) (get_or rules p 0) refl))

        at : {s v : ℕ} → s < (sizes_of file).states → v < m → Couple (sizes_of file).states m s v (couple_at m s v)
        at h l = record { state = h; setting = l; number = refl }

        moved : (s v t : ℕ) → s < (sizes_of file).states → v < m → Moves file (sizes_of file) s v t → get_or T (couple_at m s v) 0 ≡ t
        moved s v t h l x =
            let c = at h l in
            sym (leads _ (couple_below c)) ∙ ap (λ r. leads_to file (sizes_of file) r) (sym (the_rule (couples (sizes_of file)) rules exactly s v _ x.rule c (couple_below c) x.fires)) ∙ x.leads

        pub ruled : Ruled file T
        ruled = record {
          once = record { nowhere = λ p x. none_two (couples (sizes_of file)) rules exactly p (couple_below x.couple) x };
          always = record { nowhere = λ p x. x.none (get_or rules p 0) (holding x.couple) };
          moves = λ p h. record { move = λ s v c. record { rule = get_or rules p 0; fires = holding c; leads = leads p h } };
          into = record {
            to = moved;
            inside = λ s v t h l x. subst (λ t. t < (sizes_of file).states) (moved s v t h l x) (closed _ (couple_below (at h l)));
          };
          from = record {
            to = λ s v t h l e. let c = at h l in record { rule = get_or rules (couple_at m s v) 0; fires = holding c; leads = leads _ (couple_below c) ∙ e };
            inside = λ s v t h l e. subst (λ t. t < (sizes_of file).states) e (closed _ (couple_below (at h l)));
          };
        }
