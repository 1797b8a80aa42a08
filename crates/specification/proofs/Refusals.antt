-- Demand 2: a file is refused exactly when a check of its list fails, and by the first that does, at its least place. That holds of the
-- verdict of any list of checks. So past a refusal the checks before it fail nowhere; and a file without rest conditions is never refused
-- by 9, since that fails nowhere.
use mathlib.Core.Path.{◌≡◌, refl}
use mathlib.Core.Bool.{false}
use mathlib.Core.Logic.{inr}
use mathlib.Core.List.{List, ◌++◌}
use Prim.Native.Nat.{ℕ}
use native.Mathlib.Omega.{arith}
use lib.ListN.{length, take}
use Rattle.verdict.specs.Checks.{Check, Past, Passed, Judged, Fails, FirstFails}
use Rattle.verdict.specs.declared.Answer.{Answer}
use Rattle.verdict.proofs.Order.{Passes, judged_or, judged_past, judged_number}
use Rattle.verdict.proofs.First.{judged_first, judged_fails, fails_judged, first_judged}
use Rattle.specification.specs.File.{mark, WellFormed}
use Rattle.specification.specs.Records.{sizes_of, settings, Sized}
use Rattle.specification.specs.Reading.{shape_checks, record_checks, rule_checks, file_checks, ReadHere}
use Rattle.specification.specs.inner.Private.{sound_checks}
use Rattle.specification.specs.declared.Contents.{Contents}
use Rattle.specification.specs.declared.records.Sizes.{Sizes}
use Rattle.specification.proofs.Forms.{own_form, evolutions_worded, never_no_rule}

module _ {file table words : List ℕ} {room : ℕ} {r : Contents} {t w : List ℕ} (u : ReadHere file table words room r t w) where
  abbrev checks : List Check
  checks = file_checks file (length table) (length words) room

  -- refused: a check fails, and the answer is the first that does
  pub refused_fails : (r.answer.number ≡ 0 → ⊥) → Fails checks
  refused_fails n = judged_fails u.verdict n

  pub refused_first : (r.answer.number ≡ 0 → ⊥) → FirstFails checks r.answer
  refused_first n = judged_first u.verdict n

  -- a check fails: refused, and the first that fails is the answer
  pub fails_refused : Fails checks → r.answer.number ≡ 0 → ⊥
  fails_refused f e = fails_judged u.verdict 13 refl f e

  pub first_refused : (a : Answer) → FirstFails checks a → r.answer ≡ a
  first_refused a f = first_judged u.verdict a f

  -- past 1 to 3 these fail nowhere, and the others judge; so the file cannot be ill formed
  pub shape_passes : Past 3 r.answer.number → Passes (shape_checks file (length table) (length words) room) × Judged (sound_checks file (sizes_of file)) Passed r.answer
  shape_passes = judged_past (shape_checks file (length table) (length words) room) 3 u.verdict refl

  pub formed_not : Past 3 r.answer.number → ((WellFormed file × Sized file) → ⊥) → ⊥
  formed_not past n = let p = (shape_passes past).0 in p.0.nowhere 0 (refl, λ a. p.1.0.nowhere 0 (refl, λ b. n (a, b)))

  -- 9, without rest conditions
  pub never_nine : take 4 file ≡ mark false → r.answer.number ≡ 9 → ⊥
  never_nine marked e =
      let z : Sizes = sizes_of file in
      let v = (judged_past (shape_checks file (length table) (length words) room ++ record_checks file z ++ rule_checks file z) 8 u.verdict refl (inr (omega arith))).1 in
      judged_or v
      (λ l _. (never_no_rule file z (settings z) (evolutions_worded file (own_form file false marked))).nowhere _ l.here)
      (λ _ v. omega (arith, (judged_number 10 13 v refl (λ n. omega arith)).0))
