-- Each promise of this crate leaves one outcome: the answer and every element of each lent buffer. The verdict of a list of checks is
-- one, and so is the character with it; the sizes and the frame are the file's; and where a file is read no two rules hold, so that
-- each couple has one move.
use mathlib.Core.Path.{◌≡◌, refl, sym, ap, ap₂, ◌∙◌}
use mathlib.Core.List.{List}
use mathlib.Core.Logic.{◌⊎◌, ⊎_elim}
use Prim.Native.Nat.{ℕ, ◌≤◌, ◌<◌}
use native.Mathlib.Omega.{arith}
use native.Mathlib.Decide.{dec_lt, ℕ_discrete}
use lib.Pow.{pow_pos}
use Rattle.verdict.specs.Checks.{Nowhere}
use Rattle.verdict.specs.declared.Answer.{Answer}
use Rattle.verdict.proofs.Order.{judged_unique, judged_number, judged_passes}
use Rattle.verdict.proofs.Fills.{left_unique}
use Rattle.evolutions.specs.declared.Evolution.{Evolution}
use Rattle.machine.specs.declared.Frame.{Frame}
use Rattle.machine.proofs.Couples.{couple_of}
use Rattle.specification.specs.Records.{sizes_of, settings, couples}
use Rattle.specification.specs.Rules.{TwoRules, MoveAt}
use Rattle.specification.specs.Evolutions.{Handed}
use Rattle.specification.specs.Reading.{refusal_of, ContentsOf, ReadHere, ReadAs}
use Rattle.specification.specs.declared.Contents.{Contents}
use Rattle.specification.specs.declared.records.Sizes.{Sizes}
use Rattle.specification.proofs.Conditions.{character_for_only}
use Rattle.specification.proofs.Framing.{frame_only}
use Rattle.specification.proofs.Settling.{same_move}

module _ {file table words : List ℕ} {room : ℕ} {r : Contents} {t w : List ℕ} (u : ReadHere file table words room r t w) where
  -- a file that is read has no couple at which two rules hold
  pub no_two_rules : r.answer.number ≡ 0 → Nowhere (TwoRules file (sizes_of file) (settings (sizes_of file)))
  no_two_rules e = (judged_passes 13 u.verdict refl e).1.1.1.1.1.1.1.1.1.0

  few : (r.answer.number ≡ 0) ⊎ (14 ≤ r.answer.number) → r.answer.number ≡ 0
  few = ⊎_elim (λ e. e) (λ h. absurd (let k = judged_number 1 13 u.verdict refl (λ e. omega arith) in omega (arith, k.1)))

  one_move : (r.answer.number ≡ 0) ⊎ (14 ≤ r.answer.number) → (p x y : ℕ) → p < couples (sizes_of file)
      → MoveAt file (sizes_of file) (settings (sizes_of file)) p x → MoveAt file (sizes_of file) (settings (sizes_of file)) p y → x ≡ y
  one_move e p x y h f g =
      let k = couple_of p (pow_pos (sizes_of file).inputs) h in
      same_move file (sizes_of file) (no_two_rules (few e)) k (f.move _ _ k) (g.move _ _ k)

-- what is answered on success is one
pub contents_only : {file : List ℕ} {z : Sizes} (r q : Contents) → ContentsOf file z r → ContentsOf file z q → r.answer ≡ q.answer → r.character ≡ q.character → r ≡ q
contents_only r q x y e k =
    ap₂ (λ (a : Answer) (c : ℕ). record { answer = a; character = c; outputs = r.outputs; evolutions = r.evolutions; frame = r.frame }) e k
    ∙ ap₂ (λ (o n : ℕ). record { answer = q.answer; character = q.character; outputs = o; evolutions = n; frame = r.frame }) (x.outputs ∙ sym y.outputs) (x.evolutions ∙ sym y.evolutions)
    ∙ ap (λ (f : Frame). record { answer = q.answer; character = q.character; outputs = q.outputs; evolutions = q.evolutions; frame = f }) (frame_only x.frame y.frame)

-- the promise of `read_here`
module _ {file table words : List ℕ} {room : ℕ} {r q : Contents} {t t' w w' : List ℕ} (u : ReadHere file table words room r t w) (v : ReadHere file table words room q t' w') where
  same_answer : r.answer ≡ q.answer
  same_answer = judged_unique u.verdict v.verdict

  same_number : r.answer.number ≡ q.answer.number
  same_number = ap (λ (a : Answer). a.number) same_answer

  same_character : r.character ≡ q.character
  same_character = character_for_only u.character (rw (sym same_answer) at v.character)

  same_contents : Dec (r.answer.number ≡ 0) → r ≡ q
  same_contents (yes e) = contents_only r q (u.done e) (v.done (sym same_number ∙ e)) same_answer same_character
  same_contents (no n) = u.refused n ∙ ap₂ refusal_of same_answer same_character ∙ sym (v.refused (λ e. n (same_number ∙ e)))

  pub only_here : (r ≡ q) × (t ≡ t') × (w ≡ w')
  only_here = (
    same_contents (ℕ_discrete r.answer.number 0),
    left_unique (one_move u) u.table (rw (sym same_number) at v.table),
    left_unique (λ _ c x y h f g. f ∙ sym g) u.words (rw (sym same_number) at v.words),
  )

handed_once : {number : ℕ} {file : List ℕ} {z : Sizes} {a b d : List Evolution} → Handed number file z a b → Handed number file z a d → b ≡ d
handed_once {number} {b = b} {d = d} f g = by (dec_lt number 1) (dec_lt number 4)
  where
    by : Dec (number < 1) → Dec (number < 4) → b ≡ d
    by (yes z) l = let e : number ≡ 0 = omega arith in f.filled e ∙ sym (g.filled e)
    by (no z) (yes l) = let h : 1 ≤ number = omega arith in let k : number ≤ 3 = omega arith in f.unchanged h k ∙ sym (g.unchanged h k)
    by (no z) (no l) = let h : 4 ≤ number = omega arith in f.blanked h ∙ sym (g.blanked h)

-- the promise of `read`
pub only : {file table words : List ℕ} {a : List Evolution} {r q : Contents} {t t' w w' : List ℕ} {b d : List Evolution} → ReadAs file table words a r t w b → ReadAs file table words a q t' w' d
    → (r ≡ q) × (t ≡ t') × (w ≡ w') × (b ≡ d)
only u v = let k = only_here u.here v.here in (k.0, k.1, k.2, handed_once u.records (rw (sym (same_number u.here v.here)) at v.records))
