-- The conditions of a file by their places: that of a record ends where the next text begins, and those beyond are bodies of entries.
-- The character with an answer is one, since 5 is that of a condition, which has one.
use mathlib.Core.Path.{◌≡◌, refl, sym, ap₂, ◌∙◌}
use mathlib.Core.List.{List}
use Prim.Native.Nat.{ℕ, ◌+◌, ◌-◌, ◌≤◌, ◌<◌}
use native.Mathlib.Omega.{arith}
use native.Mathlib.Decide.{ℕ_discrete}
use lib.ListN.{length, get_or, take, drop, set}
use borrow.Author.Tests.{lt-ltb, le-ltb}
use Rattle.verdict.specs.Buffers.{Filled}
use Rattle.verdict.specs.Checks.{Judged, Passed}
use Rattle.verdict.specs.declared.Answer.{Answer}
use Rattle.verdict.proofs.Order.{judged_or, judged_number}
use Rattle.verdict.proofs.Fills.{filled_more}
use Rattle.condition.proofs.Characters.{character_only}
use Rattle.specification.specs.File.{count_of, body_of, kinds}
use Rattle.specification.specs.Records.{records, text_length}
use Rattle.specification.specs.Rules.{text_at, text_of, conditions, condition_of, Unreads}
use Rattle.specification.specs.Reading.{CharacterFor}
use Rattle.specification.specs.inner.Private.{Laid, Placed, sound_checks}
use Rattle.specification.specs.declared.records.Sizes.{Sizes}
use Rattle.specification.proofs.Entries.{count_few}
use Rattle.verdict.proofs.Below.{sum_more, sum_below}

module _ {file : List ℕ} {z : Sizes} (l : Laid file z) where
  -- two at most have no record
  pub conditions_few : conditions z ≤ records z + 2
  conditions_few = omega (arith, l.counted, count_few l.formed.entries)

  -- a condition that has none is the body of an entry
  pub condition_there : (r : ℕ) → records z ≤ r → r < conditions z → kinds + (r - records z) < count_of file
  condition_there r h k = omega (arith, l.counted, l.formed.headed.count)

  -- the places that the lengths sum up to
  pub placed : {at : ℕ} {a b : List ℕ} → Filled (records z) (λ k x. x ≡ text_at file z k) a b → records z < length a → at ≡ text_at file z (records z) → Placed file z (set b (records z) at)
  placed f h e = record { laid = l; at = λ r k. (filled_more f h e).needed r (omega arith) }

-- the condition of a record, and one beyond
module _ (file : List ℕ) (z : Sizes) (r : ℕ) where
  pub condition_record : r < records z → condition_of file z r ≡ text_of file z r
  unfolding condition_of
  condition_record h = rw (lt-ltb r (records z) h)

  pub condition_body : records z ≤ r → condition_of file z r ≡ body_of file (kinds + (r - records z))
  unfolding condition_of
  condition_body h = rw (le-ltb r (records z) h)

-- the condition of record r is the part of the file between its place and the next
module _ {file : List ℕ} {z : Sizes} {places : List ℕ} (p : Placed file z places) {r : ℕ} (h : r < records z) where
  pub record_ends : (get_or places (r + 1) 0 ≡ get_or places r 0 + text_length file z r) × (get_or places (r + 1) 0 ≤ length file)
  record_ends =
      let e = sum_more (text_length file z) r in
      let b = sum_below (text_length file z) r (records z) h in
      let a = p.at r (omega arith) in
      let n = p.at (r + 1) (omega arith) in
      (omega arith, omega (arith, p.laid.texts))

  pub record_text : take (get_or places (r + 1) 0 - get_or places r 0) (drop (get_or places r 0) file) ≡ text_of file z r
  record_text =
      let n : get_or places (r + 1) 0 - get_or places r 0 ≡ text_length file z r = omega (arith, record_ends.0) in
      ap₂ (λ (n at : ℕ). take n (drop at file)) n (p.at r (omega arith))

-- 5 is the refusal of a condition that does not read
pub five_unreads : {file : List ℕ} {z : Sizes} {a : Answer} → Judged (sound_checks file z) Passed a → a.number ≡ 5 → Unreads file z a.place
five_unreads v e =
    judged_or v (λ l n. absurd (omega arith)) (λ _ u.
    judged_or u (λ l n. l.here) (λ _ w. absurd (omega (arith, judged_number 6 13 w refl (λ n. omega arith)))))

-- the character with an answer is one
pub character_for_only : {file : List ℕ} {z : Sizes} {a : Answer} {j k : ℕ} → CharacterFor file z a j → CharacterFor file z a k → j ≡ k
character_for_only {a = a} {j} {k} x y = by (ℕ_discrete a.number 5)
  where
    by : Dec (a.number ≡ 5) → j ≡ k
    by (yes e) = character_only (x.unread e) (y.unread e)
    by (no n) = x.other n ∙ sym (y.other n)
