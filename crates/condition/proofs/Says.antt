-- What follows from what a text says: the promise of `read` leaves one outcome, the character is 0 exactly where the text reads, and its
-- answer decides whether it holds. By cases on the answers; two values are equal because a text has one tree.
use Rattle.std.specs.Prelude.{Result, Ok, Err}
use Rattle.std.specs.Result.{result_unwrap_or}
use Prim.Native.Nat.{ℕ, ◌+◌, ◌≤◌}
use mathlib.Core.Path.{◌≡◌, refl, sym, ap, ◌∙◌}
use mathlib.Core.Bool.{Bool, true, false}
use mathlib.Core.List.{List}
use native.Mathlib.Omega.{arith}
use lib.ListN.{length}
use Rattle.verdict.specs.Checks.{Decides}
use Rattle.verdict.proofs.Tests.{decides_unique, it_fails}
use Rattle.condition.specs.Grammar.{condition, Tree, holds}
use Rattle.condition.specs.Condition.{Reads, Holds, CharacterOf, character_of, Says}
use Rattle.condition.specs.declared.Unread.{Unread}
use Rattle.condition.proofs.Trees.{one_tree}
use Rattle.condition.proofs.Characters.{character_unread, character_only, character_some, character_upto}

module _ {n v : ℕ} {w : List ℕ} where
  -- from whether a text reads to what it says
  pub value_says : {b : Bool} (x : Reads n w) → holds v x.tree ≡ b → Says n v w (Ok b)
  value_says x e = record { value = λ z. (x, ap Ok (sym e)); unread = λ z. absurd (omega arith) }

  pub unread_says : {u : Unread} → CharacterOf n w u.character → Says n v w (Err u)
  unread_says x = record { value = λ z. absurd (omega arith); unread = λ z. x }

  -- and back
  pub says_reads : {b : Bool} → Says n v w (Ok b) → Reads n w
  says_reads s = (s.value refl).0

  pub says_character : {u : Unread} → Says n v w (Err u) → CharacterOf n w u.character
  says_character s = s.unread refl

  pub says_unread : {u : Unread} → Says n v w (Err u) → Reads n w → ⊥
  says_unread s = character_unread (says_character s)

-- the promise of `read` leaves one outcome
pub only : (n v : ℕ) (w : List ℕ) (m m' : Result Bool Unread) → Says n v w m → Says n v w m' → m ≡ m'
only n v w (Ok b) (Ok b') s s' =
    let x = s.value refl in
    let y = s'.value refl in
    x.1 ∙ ap (λ (t : Tree condition). Ok (holds v t)) (one_tree x.0.tree y.0.tree (x.0.spelt ∙ sym y.0.spelt)) ∙ sym y.1
only n v w (Ok b) (Err u) s s' = absurd (says_unread s' (says_reads s))
only n v w (Err u) (Ok b) s s' = absurd (says_unread s (says_reads s'))
only n v w (Err a) (Err b) s s' = ap (λ (k : ℕ). Err (record { character = k })) (character_only (says_character s) (says_character s'))

-- the character is 0 exactly where the text reads, and otherwise at least 1 and at most the length plus one
pub zero_reads : {n v : ℕ} {w : List ℕ} (m : Result Bool Unread) → Says n v w m → character_of m ≡ 0 → Reads n w
zero_reads (Ok b) s e = says_reads s
zero_reads (Err u) s e = absurd (omega (arith, character_some (says_character s)))

pub reads_zero : {n v : ℕ} {w : List ℕ} (m : Result Bool Unread) → Says n v w m → Reads n w → character_of m ≡ 0
reads_zero (Ok b) s x = refl
reads_zero (Err u) s x = absurd (says_unread s x)

pub character_within : {n v : ℕ} {w : List ℕ} (m : Result Bool Unread) → Says n v w m → (Reads n w → ⊥) → (1 ≤ character_of m) × (character_of m ≤ length w + 1)
character_within (Ok b) s none = absurd (none (says_reads s))
character_within (Err u) s none = (character_some (says_character s), character_upto (says_character s))

pub holds_only : (n v : ℕ) (w : List ℕ) (r s : Bool) → Decides (Holds n v w) r → Decides (Holds n v w) s → r ≡ s
holds_only n v w r s = decides_unique _ r s

-- whether it holds, from what a text says; one that does not read does not hold
pub says_holds : {n v : ℕ} {w : List ℕ} (m : Result Bool Unread) → Says n v w m → Decides (Holds n v w) (result_unwrap_or m false)
says_holds {n} {v} {w} (Ok b) s =
    let x = s.value refl in
    record {
      holds = λ t. record { reads = x.0; true_there = cc x.1 };
      fails = λ t h. cc (only n v w (Ok b) (Ok true) s (value_says h.reads h.true_there));
    }
says_holds (Err u) s = it_fails λ h. says_unread s h.reads
