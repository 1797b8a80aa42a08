-- A file that document 01 reads is read with the same answer if its initial state rests at setting 0: with four entries each check
-- fails where it failed before, nothing is ruled out, and setting 0 is the only start. With a kind 6 of the text `1` its starts are
-- document 01's, since that condition holds at every setting.
use mathlib.Core.Path.{◌≡◌, refl, sym, ap, subst, fun_ext, ◌∙◌}
use mathlib.Core.Bool.{Bool, true}
use mathlib.Core.Logic.{◌↔◌, ⊎_elim}
use mathlib.Core.List.{List}
use Prim.Native.Nat.{ℕ, suc, ◌<◌}
use native.Mathlib.Omega.{arith}
use lib.ListN.{length}
use lib.Dec.{eqb}
use Rattle.condition.specs.Condition.{Reads, Holds}
use Rattle.verdict.specs.Checks.{Nowhere, Unless, Passed, Judged}
use Rattle.verdict.specs.declared.Answer.{Answer}
use Rattle.verdict.proofs.Order.{judged_row, judged_same, unless, judged_passes, judged_unique}
use Rattle.verdict.proofs.Tests.{decides_or, decides_true, decides_equal, ◌also◌}
use Rattle.machine.specs.Moves.{Start}
use Rattle.machine.specs.Runs.{usable, machine_of, bare_machine, starting_at}
use Rattle.machine.specs.Plans.{SameRuns}
use Rattle.machine.proofs.Bare.{none_ruled, machine_bare, starts_anywhere}
use Rattle.specification.specs.File.{mark, rests_of, count_of, kinds, never_kind, Has, WellFormed}
use Rattle.specification.specs.Records.{sizes_of, settings, records, Sized}
use Rattle.specification.specs.Rules.{text_of, HoldsAt, by_text, Unreads, Moves, Never, power_up, MayStart}
use Rattle.specification.specs.Reading.{file_checks, ReadHere}
use Rattle.specification.specs.Before.{FourKinds, FourSized, RecordUnreads, checks_before, AnyStart}
use Rattle.specification.specs.declared.Contents.{Contents}
use Rattle.specification.specs.declared.records.Sizes.{Sizes}
use Rattle.specification.proofs.Conditions.{condition_record}
use Rattle.specification.proofs.Forms.{own_form, own_mark, all_worded, of_text}
use Rattle.specification.proofs.Meanings.{never_none, starts_zero, starts_all}
use Rattle.specification.proofs.Optional.{none_never, zero_allowed, any_allowed}

-- in a file with rest conditions each record has a condition, and holds exactly where that does
pub holds_by_text : (file : List ℕ) (v r : ℕ) → rests_of file ≡ true → HoldsAt file (sizes_of file) v r ↔ Holds (sizes_of file).inputs v (text_of file (sizes_of file) r)
holds_by_text file v r rests = (of_text (omega (arith, all_worded file rests)), by_text (omega (arith, all_worded file rests)))

module _ (file : List ℕ) (rests : rests_of file ≡ true) (four : count_of file ≡ kinds) where
  formed : FourKinds file → WellFormed file
  formed x = record {
    headed = record { few = x.few; marked = own_mark file true x.marked; count = omega (arith, four); enough = rw four x.enough };
    entries = record {
      always = x.kind;
      rising = λ k l. omega (arith, x.kind k (omega (arith, four)), x.kind (suc k) (omega (arith, four)));
      known = λ k l. omega (arith, x.kind k (omega (arith, four)));
      offset = λ k l. x.offset k (omega (arith, four));
      ends = rw four x.ends;
    };
    measured = x.measured;
  }

  four_kinds : WellFormed file → FourKinds file
  four_kinds x = record {
    few = x.headed.few;
    enough = rw four at x.headed.enough;
    marked = x.headed.marked ∙ ap mark rests;
    count = four;
    kind = x.entries.always;
    offset = λ k l. x.entries.offset k (omega (arith, four));
    ends = rw four at x.entries.ends;
    measured = x.measured;
  }

  sized : FourSized file → Sized file
  sized x = record { ranges = x.ranges; states = x.states; empty = λ s l. absurd (omega (arith, all_worded file rests)); texts = x.texts; bodies = λ k h l. absurd (omega (arith, four)) }

  four_sized : Sized file → FourSized file
  four_sized x = record { ranges = x.ranges; states = x.states; texts = x.texts }

  -- 13: there is no other kind, so setting 0 is the only start and is not ruled out
  no_other : Nowhere (Unless (WellFormed file)) → {kind : ℕ} → kinds < kind → Has file kind → ⊥
  no_other w l (k, o) = w.nowhere 0 (refl, λ x. omega (arith, four, o.there, o.is, x.entries.always k (omega (arith, four, o.there))))

  zero_start : Nowhere (Unless (WellFormed file)) → (v : ℕ) × Start (Moves file (sizes_of file)) (MayStart file (sizes_of file)) (settings (sizes_of file)) (sizes_of file).initial v
      → (v : ℕ) × Start (Moves file (sizes_of file)) (λ v. v ≡ 0) (settings (sizes_of file)) (sizes_of file).initial v
  zero_start w (v, x) = (v, record { below = x.below; rests = x.rests; allowed = zero_allowed (no_other w (omega arith)) x.allowed.0 })

  start_left : Nowhere (Unless (WellFormed file)) → (v : ℕ) × Start (Moves file (sizes_of file)) (λ v. v ≡ 0) (settings (sizes_of file)) (sizes_of file).initial v
      → (v : ℕ) × Start (Moves file (sizes_of file)) (MayStart file (sizes_of file)) (settings (sizes_of file)) (sizes_of file).initial v
  start_left w (v, x) = (v, record { below = x.below; rests = x.rests; allowed = (power_up (no_other w (omega arith)) x.allowed, none_never (no_other w (omega arith))) })

  -- refusal 5, of the records alone
  unreads : (r : ℕ) → RecordUnreads file (sizes_of file) r → Unreads file (sizes_of file) r
  unreads r x = record { below = omega (arith, x.below); worded = omega (arith, all_worded file rests); unread = λ y. x.unread (subst (Reads (sizes_of file).inputs) (condition_record file (sizes_of file) r x.below) y) }

  record_unreads : (r : ℕ) → Unreads file (sizes_of file) r → RecordUnreads file (sizes_of file) r
  record_unreads r x =
      let h : r < records (sizes_of file) = omega (arith, four, x.below) in
      record { below = h; unread = λ y. x.unread (subst (Reads (sizes_of file).inputs) (sym (condition_record file (sizes_of file) r h)) y) }

  -- each check fails where it failed before
  judged_before : {tableRoom wordRoom recordRoom : ℕ} {a : Answer} → Judged (checks_before file tableRoom wordRoom recordRoom) Passed a → Judged (file_checks file tableRoom wordRoom recordRoom) Passed a
  judged_before v =
      judged_row (unless four_kinds) (unless formed)
      (λ w. judged_row (unless four_sized) (unless sized)
      (λ _. judged_same (judged_same (judged_same (judged_same (judged_row unreads record_unreads
      (λ _. judged_same (judged_same (judged_same (judged_same (judged_same (judged_same (judged_same (judged_row (unless (zero_start w)) (unless (start_left w)) (λ _ u. u))))))))))))))) v

-- A file that document 01 reads, and whose initial state rests at setting 0, is read, and the table jobs are handed document 01's
-- machine with that start alone. Its table and words are those that `ReadHere` says, in the same words as before.
pub as_before : {file table₀ words₀ table₁ words₁ : List ℕ} {room : ℕ} {a : Answer} {r : Contents}
    → Judged (checks_before file (length table₀) (length words₀) room) Passed a → a.number ≡ 0 → ReadHere file table₀ words₀ room r table₁ words₁
    → (r.answer ≡ a) × ((T : List ℕ) → machine_of r.frame T ≡ starting_at (λ v. eqb v 0) (bare_machine (sizes_of file).inputs (sizes_of file).states (sizes_of file).initial T))
as_before {file} {a = a} {r} v e u =
    ⊎_elim
    (λ (x : (rests_of file ≡ true) × (count_of file ≡ kinds)).
    let (rests, four) = x in
    let is : r.answer ≡ a = judged_unique u.verdict (judged_before file rests four v) in
    let d : r.answer.number ≡ 0 = ap (λ (b : Answer). b.number) is ∙ e in
    let f = (u.done d).frame in
    let w = (judged_passes 13 u.verdict refl d).0 in (
      is,
      λ T. rw (← f.inputs, ← f.states, ← f.initial)
          (machine_bare r.frame T (none_ruled r.frame (never_none u d (no_other file rests four w (omega arith))))
          ∙ ap (λ (s : ℕ → Bool). starting_at s (bare_machine r.frame.inputs r.frame.states r.frame.initial T)) (fun_ext (starts_zero u d (no_other file rests four w (omega arith))))),
    ))
    (λ (other : (rests_of file ≡ true) × (count_of file ≡ kinds) → ⊥). absurd ((judged_passes 13 v refl e).0.nowhere 0 (refl, λ x. other (own_form file true x.marked, x.count))))
    (decides_or (decides_true (rests_of file) also decides_equal (count_of file) kinds))

-- With kind 6 `1` a run may start as document 01 lets it, at any setting that is not ruled out: by the file, and by the runs of the
-- machine that the table jobs are handed, which without kind 5 are those of document 01's machine.
pub may_start_anywhere : {file : List ℕ} {z : Sizes} {v : ℕ} → AnyStart file → MayStart file z v ↔ (Never file z v → ⊥)
may_start_anywhere a = (λ x. x.1, λ n. (any_allowed a, n))

module _ {file table words₀ : List ℕ} {room : ℕ} {r : Contents} {t w : List ℕ} (u : ReadHere file table words₀ room r t w) (e : r.answer.number ≡ 0) (a : AnyStart file) (T : List ℕ) where
  pub runs_anywhere : SameRuns (machine_of r.frame T) (starting_at (usable r.frame) (machine_of r.frame T))
  runs_anywhere = starts_anywhere r.frame T (starts_all u e a)

  pub runs_bare : (Has file never_kind → ⊥) → SameRuns (machine_of r.frame T) (bare_machine r.frame.inputs r.frame.states r.frame.initial T)
  runs_bare n =
      let all = none_ruled r.frame (never_none u e n) in
      subst (SameRuns (machine_of r.frame T)) (ap (starting_at (usable r.frame)) (machine_bare r.frame T all) ∙ ap (λ (s : ℕ → Bool). starting_at s (bare_machine r.frame.inputs r.frame.states r.frame.initial T)) (fun_ext all)) runs_anywhere
