-- The table of a file that is read is the meaning of its conditions: at each couple exactly one rule holds, and the byte is its target.
-- A rule holds because checks 8 and 9 passed. The sets of its frame are what kinds 5 and 6 say. And its records are its evolutions, so
-- that what is asked of a record is asked of the file.
use mathlib.Core.Path.{◌≡◌, refl, sym, ap, subst, subst₂, ◌∙◌}
use mathlib.Core.Bool.{Bool, true}
use mathlib.Core.List.{List}
use mathlib.Core.Logic.{inl, ⊎_elim}
use Prim.Native.Nat.{ℕ, zero, suc, ◌+◌, ◌^◌, ◌≤◌, ◌<◌}
use native.Mathlib.Omega.{arith}
use native.Mathlib.Numerals.{add-one}
use native.Mathlib.Nat.{not-suc-le-zero, le_of_suc-le-suc, eq-or-lt_of_le}
use lib.ListN.{length, get_or, replicate, length-append, get_or-append}
use lib.Seq.{get_or_at}
use lib.Arith.{digits_lt}
use lib.Dec.{eqb}
use lib.Pow.{pow_pos}
use borrow.Author.Tests.{ne_eqb}
use Rattle.verdict.specs.Checks.{Decides}
use Rattle.verdict.proofs.Order.{judged_passes}
use Rattle.verdict.proofs.Tests.{decides_map, decides_is, decides_equal, decides_unique}
use Rattle.sets.specs.Sets.{words, member}
use Rattle.sets.proofs.Arrays.{set_none, set_of_only}
use Rattle.condition.specs.Condition.{Holds}
use Rattle.evolutions.specs.Evolutions.{blank, Met}
use Rattle.evolutions.specs.declared.Evolution.{Evolution}
use Rattle.machine.specs.Couples.{couple_at, Couple}
use Rattle.machine.proofs.Order.{below_or}
use Rattle.specification.specs.File.{never_kind, starts_kind, Has}
use Rattle.specification.specs.Records.{sizes_of, settings, records, text_length}
use Rattle.specification.specs.Rules.{text_at, text_of, Allowed, power_up, OneRule}
use Rattle.specification.specs.Evolutions.{evolution_of, evolutions}
use Rattle.specification.specs.Reading.{ReadHere, ReadAs}
use Rattle.specification.specs.Before.{AnyStart}
use Rattle.specification.specs.declared.Contents.{Contents}
use Rattle.specification.specs.declared.records.Sizes.{Sizes}
use Rattle.verdict.proofs.Below.{sum_below}
use Rattle.specification.proofs.Laws.{laid}
use Rattle.specification.proofs.Optional.{none_never, zero_allowed, any_allowed}
use Rattle.specification.proofs.Once.{no_two_rules}
use Rattle.specification.proofs.Settling.{same_rule}

module _ {file table words₀ : List ℕ} {room : ℕ} {r : Contents} {t w : List ℕ} (u : ReadHere file table words₀ room r t w) (e : r.answer.number ≡ 0) where
  means : (s v : ℕ) → s < (sizes_of file).states → v < settings (sizes_of file) → OneRule file (sizes_of file) s v (get_or t (couple_at (settings (sizes_of file)) s v) 0)
  means s v h k =
      let c : Couple (sizes_of file).states (settings (sizes_of file)) s v (couple_at (settings (sizes_of file)) s v) = record { state = h; setting = k; number = refl } in
      let m = ((u.table.filled (inl e)).needed _ (digits_lt h k)).move s v c in
      record { rule = m.rule; fires = m.fires; only = λ r f. same_rule file (sizes_of file) (no_two_rules u e) c r m.rule f m.fires; leads = m.leads }

  -- by the sizes that are answered
  pub table_means : (s v : ℕ) → s < r.frame.states → v < 2 ^ r.frame.inputs → OneRule file (sizes_of file) s v (get_or t (couple_at (2 ^ r.frame.inputs) s v) 0)
  table_means s v h k =
      let n : r.frame.inputs ≡ (sizes_of file).inputs = (u.done e).frame.inputs in
      let m : r.frame.states ≡ (sizes_of file).states = (u.done e).frame.states in
      subst (λ n. OneRule file (sizes_of file) s v (get_or t (couple_at (2 ^ n) s v) 0)) (sym n) (means s v (subst (λ k. s < k) m h) (subst (λ n. v < 2 ^ n) n k))

  -- the sets that are answered: without kind 5 no setting is ruled out, and without kind 6 setting 0 alone is an allowed start
  pub never_none : (Has file never_kind → ⊥) → r.frame.never ≡ replicate words 0
  never_none n = set_of_only (u.done e).frame.never (set_none words (settings (sizes_of file)) (λ v h. none_never n))

  pub starts_zero : (Has file starts_kind → ⊥) → (v : ℕ) → member r.frame.starts v ≡ eqb v 0
  starts_zero n v =
      let s = (u.done e).frame.starts in
      ⊎_elim
      (λ h. decides_unique (Allowed file (sizes_of file) v) (member r.frame.starts v) (eqb v 0) (s.each v h) (decides_map (power_up n) (zero_allowed n) (decides_equal v 0)))
      (λ h. s.beyond v h ∙ sym (ne_eqb v 0 (λ q. omega (arith, pow_pos (sizes_of file).inputs))))
      (below_or v (settings (sizes_of file)))

  -- with kind 6 `1` every setting is
  pub starts_all : AnyStart file → (v : ℕ) → v < 2 ^ r.frame.inputs → member r.frame.starts v ≡ true
  starts_all a v h = let f = (u.done e).frame in decides_is (f.starts.each v (subst (λ (n : ℕ). v < 2 ^ n) f.inputs h)) (any_allowed a)

-- the list of evolutions, by its elements
module _ (file : List ℕ) (z : Sizes) where
  many : (n : ℕ) → length (evolutions file z n) ≡ n
  unfolding evolutions
  many zero = refl
  many (suc n) = rw (length-append, many n, add-one)

  nth : (n e : ℕ) → e < n → get_or (evolutions file z n) e blank ≡ evolution_of file z e
  unfolding evolutions
  nth zero e h = absurd (not-suc-le-zero h)
  nth (suc n) e h =
      ⊎_elim (λ k. subst (λ e. get_or (evolutions file z (suc n)) e blank ≡ evolution_of file z e) (sym k) (get_or_at (evolutions file z n) (evolution_of file z n) _ blank n (many n)))
      (λ l. get_or-append (evolutions file z n) _ blank e (rw (many n) l) ∙ nth n e l)
      (eq-or-lt_of_le (le_of_suc-le-suc h))

module _ {file table words : List ℕ} {a : List Evolution} {r : Contents} {t w : List ℕ} {b : List Evolution} (u : ReadAs file table words a r t w b) (e : r.answer.number ≡ 0) where
  -- record i is evolution i
  pub record_is : (i : ℕ) → i < r.evolutions → get_or b i blank ≡ evolution_of file (sizes_of file) i
  record_is i h =
      let m : r.evolutions ≡ (sizes_of file).evolutions = (u.here.done e).evolutions in
      let l : i < (sizes_of file).evolutions = omega arith in
      ap (λ (l : List Evolution). get_or l i blank) (u.records.filled e)
      ∙ get_or-append (evolutions file (sizes_of file) (sizes_of file).evolutions) _ blank i (rw (many file (sizes_of file) (sizes_of file).evolutions) l)
      ∙ nth file (sizes_of file) (sizes_of file).evolutions i l

  -- its text lies in the file
  inside : (i : ℕ) → i < (sizes_of file).evolutions → (evolution_of file (sizes_of file) i).at + (evolution_of file (sizes_of file) i).length ≤ length file
  inside i h =
      let z = sizes_of file in
      let k = z.states + i in
      let p = judged_passes 13 u.here.verdict refl e in
      let n : length file < text_at file z k + text_length file z k → ⊥ =
      λ l. p.0.nowhere 0 (refl, λ f. p.1.0.nowhere 0 (refl, λ s. omega (arith, (laid file f s).texts, sum_below (text_length file z) k (records z) (omega arith)))) in
      omega arith

  -- what is asked of record i is asked of the condition of evolution i
  pub record_asks : (i v : ℕ) {q : Bool} → i < r.evolutions → Decides (Met file (get_or b i blank) r.frame.inputs v) q → Decides (Holds (sizes_of file).inputs v (text_of file (sizes_of file) ((sizes_of file).states + i))) q
  record_asks i v {q} h d =
      let n : r.frame.inputs ≡ (sizes_of file).inputs = (u.here.done e).frame.inputs in
      let m : r.evolutions ≡ (sizes_of file).evolutions = (u.here.done e).evolutions in
      decides_map (λ x. x.holds) (λ x. record { inside = inside i (omega arith); holds = x })
      (subst₂ (λ (x : Evolution) (n : ℕ). Decides (Met file x n v) q) (record_is i h) n d)
