-- A file without rest conditions, and the same with them: where the first is not refused by 1 to 5 both are read alike, since each check from
-- 4 on fails in one where it does in the other. That 1, 2 and 5 do not refuse a file says only that it cannot be ill formed, nor have a
-- condition that does not read; that is enough, since what is compared are numbers.
use mathlib.Core.Path.{◌≡◌, refl, sym, ap, ap₂, subst, ◌∙◌}
use mathlib.Core.Bool.{false}
use mathlib.Core.HLevel.{Discrete, dec→stable}
use mathlib.Core.Logic.{inl, inr, ⊎_elim}
use mathlib.Core.List.{List, [], ◌∷◌, ◌++◌, List-discrete}
use Prim.Native.Nat.{ℕ, zero, suc, ◌≤◌, ◌<◌}
use native.Mathlib.Omega.{arith}
use native.Mathlib.Decide.{ℕ_discrete}
use native.Mathlib.Nat.{eq-or-lt_of_le, le_of_suc-le-suc}
use lib.ListN.{length, get_or, take}
use lib.Pow.{pow_pos}
use Rattle.condition.specs.Condition.{Reads}
use Rattle.verdict.specs.Checks.{check, Nowhere, Past}
use Rattle.verdict.specs.Buffers.{Left}
use Rattle.verdict.specs.declared.Answer.{Answer}
use Rattle.verdict.proofs.Order.{Passes, judged_past, judged_rest, judged_number, judged_unique, long}
use Rattle.verdict.proofs.Tests.{meets}
use Rattle.machine.proofs.Order.{equal_or}
use Rattle.machine.proofs.Couples.{couple_of}
use Rattle.specification.specs.File.{mark, rests_of, WellFormed}
use Rattle.specification.specs.Records.{sizes_of, couples, records, Evolves, Sized, Beyond}
use Rattle.specification.specs.Rules.{text_of, Unreads}
use Rattle.specification.specs.Reading.{shape_checks, refusal_of, ContentsOf, ReadHere}
use Rattle.specification.specs.Rests.{with_rests, Fits, Alike}
use Rattle.specification.specs.inner.Private.{SoundAs}
use Rattle.specification.specs.declared.Contents.{Contents}
use Rattle.specification.specs.declared.records.Sizes.{Sizes}
use Rattle.specification.proofs.Laws.{laid}
use Rattle.specification.proofs.Conditions.{condition_record}
use Rattle.specification.proofs.Forms.{own_form}
use Rattle.specification.proofs.Settling.{same_move}
use Rattle.specification.proofs.Once.{no_two_rules, contents_only}
use Rattle.specification.proofs.Refusals.{shape_passes, formed_not}
use Rattle.specification.proofs.Rewritten.{rested}
use Rattle.specification.proofs.Places.{rewritten}
use Rattle.specification.proofs.Shaped.{formed, sizes_are, sized}
use Rattle.specification.proofs.Rests.{AllRead, unreads, carries, carries_back}
use Rattle.specification.proofs.Carried.{Carries, moves_into, beyond_into, judged_into, contents_into}

-- what cannot be false of any number cannot be false of one below k
below_not : {P : ℕ → Type 0} → ((r : ℕ) → (P r → ⊥) → ⊥) → (k : ℕ) → (((r : ℕ) → r < k → P r) → ⊥) → ⊥
below_not each zero n = n (λ r h. absurd (omega arith))
below_not {P} each (suc k) n =
    below_not each k (λ a. each k (λ p. n (λ r h. ⊎_elim (λ e. subst P (sym e) p) (a r) (eq-or-lt_of_le (le_of_suc-le-suc h)))))

-- where 5 fails nowhere, it cannot be that not all conditions of evolutions read
all_read : {f : List ℕ} {z : Sizes} → z.worded ≡ z.states → Nowhere (Unreads f z) → (AllRead f z → ⊥) → ⊥
all_read {f} {z} worded ok n =
    below_not {P = λ r. Evolves z r → Reads z.inputs (text_of f z r)}
    (λ r m. m (λ e. absurd (ok.nowhere r (record {
      below = omega (arith, e.below);
      worded = omega (arith, e.after);
      unread = λ x. m (λ _. subst (Reads z.inputs) (condition_record f z r e.below) x);
    }))))
    (records z) (λ a. n (record { reads = λ r e. a r e.below e }))

-- two buffers have the same needed elements, after 4 to 13 and on success
left_alike : {n needed blank : ℕ} {P Q : ℕ → ℕ → Type 0} {a b a' b' : List ℕ} → Past 3 n → (3 < n → n ≤ 13) → (n ≡ 0 → (c x y : ℕ) → c < needed → P c x → Q c y → x ≡ y)
    → Left n needed blank P a b → Left n needed blank Q a' b' → (c : ℕ) → c < needed → get_or b c 0 ≡ get_or b' c 0
left_alike (inl e) few one f g c h = one e c _ _ h ((f.filled (inl e)).needed c h) ((g.filled (inl e)).needed c h)
left_alike (inr k) few one f g c h = (f.blanked k (few k)).needed c h ∙ sym ((g.blanked k (few k)).needed c h)

-- contents that cannot differ are the same, number by number; and so is what is read alike
same_field : {A : Type 0} {r q : Contents} → Discrete A → ((r ≡ q → ⊥) → ⊥) → (of : Contents → A) → of r ≡ of q
same_field {r = r} {q} d n of = dec→stable (d (of r) (of q)) (λ m. n (λ e. m (ap of e)))

same_contents : {r q : Contents} → ((r ≡ q → ⊥) → ⊥) → r ≡ q
same_contents n =
    let number = same_field ℕ_discrete n in
    let list = same_field (List-discrete ℕ_discrete) n in
    λ i. record {
      answer = record { number = number (λ r. r.answer.number) i; place = number (λ r. r.answer.place) i };
      character = number (λ r. r.character) i;
      outputs = number (λ r. r.outputs) i;
      evolutions = number (λ r. r.evolutions) i;
      frame = record {
        inputs = number (λ r. r.frame.inputs) i;
        states = number (λ r. r.frame.states) i;
        initial = number (λ r. r.frame.initial) i;
        never = list (λ r. r.frame.never) i;
        starts = list (λ r. r.frame.starts) i;
      };
    }

alike_stable : {f t t' w w' : List ℕ} {r r' : Contents} → ((Alike f r r' t t' w w' → ⊥) → ⊥) → Alike f r r' t t' w w'
alike_stable {t = t} {t'} {w} {w'} n = record {
  contents = same_contents (λ m. n (λ a. m a.contents));
  moves = λ p h. dec→stable (ℕ_discrete (get_or t' p 0) (get_or t p 0)) (λ m. n (λ a. m (a.moves p h)));
  outputs = λ s h. dec→stable (ℕ_discrete (get_or w' s 0) (get_or w s 0)) (λ m. n (λ a. m (a.outputs s h)));
}

module _ {file table words : List ℕ} {room : ℕ} {r : Contents} {t w : List ℕ} (u : ReadHere file table words room r t w) where
  -- past 1 to 5 no record is beyond, and no condition does not read
  texts_pass : Past 5 r.answer.number → Nowhere (Beyond file (sizes_of file)) × Nowhere (Unreads file (sizes_of file))
  texts_pass past =
      let p = (judged_past (shape_checks file (length table) (length words) room ++ check 4 (Beyond file (sizes_of file)) ∷ check 5 (Unreads file (sizes_of file)) ∷ []) 5 u.verdict refl past).0 in
      (p.1.1.1.1.1.0, p.1.1.1.1.1.1.0)

earlier : {n : ℕ} → Past 5 n → Past 3 n
earlier = ⊎_elim inl (λ h. inr (omega (arith, h)))

-- a file that is well formed and sized, and whose conditions read: the same answer, contents, moves and words
module _ {f table words : List ℕ} {room : ℕ} {r : Contents} {t w : List ℕ} (u : ReadHere f table words room r t w) (past : Past 5 r.answer.number)
    (wf : WellFormed f) (sz : Sized f) (without : rests_of f ≡ false) (all : AllRead f (sizes_of f)) (fit : Fits f)
    {table' words' : List ℕ} {room' : ℕ} {r' : Contents} {t' w' : List ℕ} (u' : ReadHere (with_rests f) table' words' room' r' t' w')
    (for-table : couples (sizes_of f) ≤ length table') (for-words : (sizes_of f).states ≤ length words') (for-records : (sizes_of f).evolutions ≤ room') where
  abbrev z : Sizes
  z = sizes_of f

  abbrev g : List ℕ
  g = with_rests f

  to : Carries z f z.worded g 0
  to = carries (laid f wf sz) (rewritten f wf sz without) all fit.nested

  back : Carries z g 0 f z.worded
  back = carries_back (laid f wf sz) (rewritten f wf sz without) all fit.nested

  -- the file with rest conditions passes 1 to 3, so that 4 to 13 answer there what they answer here
  sizes : sizes_of g ≡ rested z
  sizes = sizes_are f wf sz

  passes : Passes (shape_checks g (length table') (length words') room')
  passes = (
    meets (formed f wf sz fit.few),
    (
      meets (sized f wf sz without),
      (
        long (subst (λ y. couples y ≤ length table') (sym sizes) for-table),
        (long (subst (λ y. y.states ≤ length words') (sym sizes) for-words), (long (subst (λ y. y.evolutions ≤ room') (sym sizes) for-records), tt)),
      ),
    ),
  )

  there : SoundAs g (rested z) table' words' r'.answer t' w'
  there =
      subst (λ y. SoundAs g y table' words' r'.answer t' w') sizes
      (record { judged = judged_rest (shape_checks g (length table') (length words') room') passes u'.verdict; table = u'.table; words = u'.words })

  same_answer : r'.answer ≡ r.answer
  same_answer = judged_unique (judged_into back to sz.ranges.begins there.judged) (shape_passes u (earlier past)).1

  same_number : r'.answer.number ≡ r.answer.number
  same_number = ap (λ (a : Answer). a.number) same_answer

  no_five : r.answer.number ≡ 5 → ⊥
  no_five e = ⊎_elim (λ n. omega (arith, n)) (λ h. omega (arith, h)) past

  same_character : r'.character ≡ r.character
  same_character = u'.character.other (λ e. no_five (sym same_number ∙ e)) ∙ sym (u.character.other no_five)

  contents : Dec (r.answer.number ≡ 0) → r' ≡ r
  contents (yes e) =
      contents_only r' r (contents_into back.shares (subst (λ y. ContentsOf g y r') sizes (u'.done (same_number ∙ e)))) (u.done e) same_answer same_character
  contents (no n) = u'.refused (λ e. n (sym same_number ∙ e)) ∙ ap₂ refusal_of same_answer same_character ∙ sym (u.refused n)

  few : 3 < r.answer.number → r.answer.number ≤ 13
  few h = (judged_number 1 13 u.verdict refl (λ e. omega arith)).1

  alike : Alike f r r' t t' w w'
  alike = record {
    contents = contents (ℕ_discrete r.answer.number 0);
    moves = left_alike (earlier past) few
        (λ e p x y h a b. let k = couple_of p (pow_pos z.inputs) h in same_move f z (no_two_rules u e) k (moves_into back (a.move _ _ k)) (b.move _ _ k))
        (rw same_number at there.table) u.table;
    outputs = left_alike (earlier past) few (λ e s x y h a b. a ∙ to.shares.words s h ∙ sym b) (rw same_number at there.words) u.words;
  }

-- A file without rest conditions that is read, or refused by 6 or later, and the same with rest conditions, where that is within the
-- limits and lent enough room: the same answer, sizes and sets, the same table and words.
pub read_alike : {f table words : List ℕ} {room : ℕ} {r : Contents} {t w table' words' : List ℕ} {room' : ℕ} {r' : Contents} {t' w' : List ℕ}
    → ReadHere f table words room r t w → take 4 f ≡ mark false → Fits f → Past 5 r.answer.number
    → ReadHere (with_rests f) table' words' room' r' t' w'
    → couples (sizes_of f) ≤ length table' → (sizes_of f).states ≤ length words' → (sizes_of f).evolutions ≤ room'
    → Alike f r r' t t' w w'
read_alike {f} u marked fit past u' h k l =
    let without = own_form f false marked in
    alike_stable (λ n. formed_not u (earlier past) (λ x.
    all_read (rewritten f x.0 x.1 without).worded (texts_pass u past).1 (λ all. n (alike u past x.0 x.1 without all fit u' h k l))))

-- a record beyond, or a condition that does not read, is so with rest conditions
texts_back : (f : List ℕ) → WellFormed f → Sized f → rests_of f ≡ false → Nowhere (Beyond (with_rests f) (sizes_of (with_rests f))) × Nowhere (Unreads (with_rests f) (sizes_of (with_rests f)))
    → Passes (check 4 (Beyond f (sizes_of f)) ∷ check 5 (Unreads f (sizes_of f)) ∷ [])
texts_back f wf sz without p =
    let l = laid f wf sz in
    let w = rewritten f wf sz without in
    let p = subst (λ y. Nowhere (Beyond (with_rests f) y) × Nowhere (Unreads (with_rests f) y)) (sizes_are f wf sz) p in
    (record { nowhere = λ r x. p.0.nowhere r (beyond_into w.shares (sizes_of f).worded 0 r x) }, (record { nowhere = λ r x. p.1.nowhere r (unreads l w r x) }, tt))

-- And back: where the file with rest conditions is read, or refused by 6 or later, the file without is not refused by 4 or 5.
pub past_back : {f table words : List ℕ} {room : ℕ} {r : Contents} {t w table' words' : List ℕ} {room' : ℕ} {r' : Contents} {t' w' : List ℕ}
    → ReadHere f table words room r t w → take 4 f ≡ mark false → Past 3 r.answer.number
    → ReadHere (with_rests f) table' words' room' r' t' w' → Past 5 r'.answer.number
    → Past 5 r.answer.number
past_back {f} {r = r} u marked early u' past = ⊎_elim inl
    (λ n.
    let late : r.answer.number ≤ 5 → ⊥ = λ h. formed_not u early (λ x.
    let v = judged_rest (check 4 (Beyond f (sizes_of f)) ∷ check 5 (Unreads f (sizes_of f)) ∷ []) (texts_back f x.0 x.1 (own_form f false marked) (texts_pass u' past)) (shape_passes u early).1 in
    omega (arith, (judged_number 6 13 v refl n).0)) in
    inr (omega arith))
    (equal_or r.answer.number 0)
