-- The first pass of the plan or list, couple by couple: what its flags say after each turn, and that all that a turn touches is a couple.
use mathlib.Core.Path.{◌≡◌, refl, sym, ap, ap₂, ◌∙◌}
use mathlib.Core.List.{List}
use mathlib.Core.Bool.{Bool, true, false, cond}
use Prim.Native.Nat.{ℕ, ◌+◌, ◌%◌, ◌≤◌, ◌<◌}
use native.Mathlib.Numerals.{add-one}
use native.Mathlib.Nat.{mod-lt}
use native.Mathlib.Omega.{arith}
use lib.ListN.{get_or, set}
use lib.Dec.{leb}
use borrow.Author.Tests.{eq-eqb, ne_eqb}
use Rattle.verdict.proofs.Tests.{true≢false}
use Rattle.several.specs.Weights.{extra, unweighed}
use Rattle.plan.specs.inner.Choosing.{noted_change, noted_run, looks_at, wanted, noted_at, bytes_at, noted, flags, bytes, Turn, Chosen}

-- one change noted, one fewer is left
pub noted_back : (T P : List ℕ) (z c m n : ℕ) (F : List Bool) → n ≡ m + 1
    → noted_run T P z (get_or P c 0) m (noted_change T z (get_or P c 0) (c % z) F) ≡ noted_run T P z c n F
unfolding noted_run
noted_back T P z c m n F e = rw (e, add-one m)

-- at which couples the plan or list looks, by their weights
module _ (several : Bool) (w : ℕ) where
  pub looks_none : w ≡ unweighed → looks_at several w ≡ false
  unfolding looks_at
  looks_none e = rw (eq-eqb w unweighed e) refl

  pub looks_weighed : looks_at several w ≡ true → w ≡ unweighed → ⊥
  looks_weighed e f = true≢false (sym e ∙ looks_none f)

pub looks_plan : (w : ℕ) → (w ≡ unweighed → ⊥) → looks_at false w ≡ true
unfolding looks_at
looks_plan w n = rw (ne_eqb w unweighed n) refl

pub looks_list : (w : ℕ) → (w ≡ unweighed → ⊥) → looks_at true w ≡ leb extra w
unfolding looks_at
looks_list w n = rw (ne_eqb w unweighed n) refl

-- when a couple is wanted
module _ (several : Bool) (W : List ℕ) (F : List Bool) (c : ℕ) where
  pub wanted_not : looks_at several (get_or W c 0) ≡ false → wanted several W F c ≡ false
  unfolding wanted
  wanted_not e = rw e refl

  pub wanted_visited : get_or F c false ≡ true → wanted several W F c ≡ false
  unfolding wanted
  wanted_visited f = rw f (either (looks_at several (get_or W c 0)))
    where
      either : (b : Bool) → cond b false false ≡ false
      either true = refl
      either false = refl

  pub wanted_here : looks_at several (get_or W c 0) ≡ true → get_or F c false ≡ false → wanted several W F c ≡ true
  unfolding wanted
  wanted_here e f = rw (e, f) refl

  pub wanted_looks : wanted several W F c ≡ true → looks_at several (get_or W c 0) ≡ true
  wanted_looks e = go (looks_at several (get_or W c 0)) refl
    where
      go : (b : Bool) → looks_at several (get_or W c 0) ≡ b → b ≡ true
      go true f = refl
      go false f = absurd (true≢false (sym e ∙ wanted_not f))

-- couple c in its turn, wanted or not
module _ {several : Bool} {T P W : List ℕ} {z c : ℕ} {F C : List Bool} {b : Bool} (is : b ≡ wanted several W F c) where
  pub turn_not : b ≡ false → Turn several T P W z c 0 F C F (set C c b)
  unfolding noted_at bytes_at
  turn_not e = let w = sym is ∙ e in record { bytes_are = rw w refl; bytes_few = omega arith; visited_are = rw w refl; chosen_are = rw is refl }

  pub turn_taken : b ≡ true → {n : ℕ} {F' : List Bool} → n ≡ get_or W c 0 % extra + cond several 5 3 → F' ≡ noted_run T P z c (get_or W c 0 % extra) F
      → Turn several T P W z c n F C F' (set C c b)
  unfolding noted_at bytes_at
  turn_taken e {n} k s =
      let w = sym is ∙ e in
      record {
        bytes_are = rw w k;
        bytes_few = let h : get_or W c 0 % extra < extra = mod-lt (get_or W c 0) (omega arith) in omega (arith, h, k, counts several);
        visited_are = rw w s;
        chosen_are = rw is refl;
      }
    where
      counts : (d : Bool) → cond d 5 3 ≤ 5
      counts true = omega arith
      counts false = omega arith

module _ {several : Bool} {T P W : List ℕ} {z : ℕ} where
  pub chosen_none : {F C : List Bool} → Chosen several T P W z 0 0 F C F C
  unfolding noted flags bytes
  chosen_none = record { bytes_are = refl; bytes_few = omega arith; visited_are = refl; chosen_are = refl }

  pub chosen_more : {c n k : ℕ} {F C F' C' F'' C'' : List Bool} → Chosen several T P W z c n F C F' C' → Turn several T P W z c k F' C' F'' C'' → Chosen several T P W z (c + 1) (n + k) F C F'' C''
  unfolding noted flags bytes
  chosen_more {c} {n} {k} {F} {C} {F'} {C'} {F''} {C''} p q = rw (add-one c) (record {
    bytes_are = ap₂ (λ (a b : ℕ). a + b) p.bytes_are (q.bytes_are ∙ ap (bytes_at several T P W z c) p.visited_are);
    bytes_few = omega (arith, p.bytes_few, q.bytes_few);
    visited_are = q.visited_are ∙ ap (noted_at several T P W z c) p.visited_are;
    chosen_are = q.chosen_are ∙ ap₂ (λ (a b : List Bool). set a c (wanted several W b c)) p.chosen_are p.visited_are;
  })
