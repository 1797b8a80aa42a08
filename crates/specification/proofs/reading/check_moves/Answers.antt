-- `check_moves` takes 2 and 3, which pass, off the verdict of the table, and answers 9 for its 4: the numbers behind it are 10 and more.
use native.Mathlib.Omega.{arith}
use mathlib.Core.Path.{◌≡◌, refl, ap, subst}
use mathlib.Core.List.{List, [], ◌∷◌, ◌++◌}
use Prim.Native.Nat.{ℕ, ◌≤◌}
use lib.ListN.{length}
use Rattle.verdict.specs.Checks.{check, Short, Passed, Judged}
use Rattle.verdict.specs.Refusals.{number_of, place_of, refused_by}
use Rattle.verdict.specs.declared.Answer.{Answer}
use Rattle.verdict.specs.declared.Refusal.{Refusal}
use Rattle.verdict.specs.declared.Refusal.TheVariants.{Beyond}
use Rattle.verdict.proofs.Order.{judged_rest, judged_or, judged_number, pass, halt, long}
use Rattle.verdict.proofs.Refusals.{refused_once}
use Rattle.machine.specs.Runs.{Machine}
use Rattle.tables.specs.Tables.{machine_in, Tabled, size_checks, move_checks, state_checks, sound_checks}
use Rattle.tables.proofs.Gate.{size_passes}
use Rattle.specification.proofs.reading.check_moves.Goals as goal

later : (m : Machine) (words : List ℕ) {a : Answer} → Tabled m → m.states ≤ length words → Judged (sound_checks m words) Passed a → Judged (move_checks m ++ state_checks m words) Passed a
later m words t h v =
    let p = size_passes t in
    judged_rest (size_checks m ++ check 3 (Short m.states (length words)) ∷ []) (p.0, (p.1.0, (long h, tt))) v

-- 4 is the number of one refusal
is_beyond : (r : Refusal) → number_of r ≡ 4 → r ≡ Beyond (place_of r)
is_beyond r e = refused_once r (Beyond (place_of r)) (ap (λ (n : ℕ). record { number = n; place = place_of r }) e)

pub returns-in-Beyond : goal.returns-in-Beyond
returns-in-Beyond c =
    let m = machine_in c.args.sized.job in
    let w = c.args.words.now in
    judged_or (subst (λ (r : Refusal). Judged (move_checks m ++ state_checks m w) Passed (refused_by r)) c.in-Beyond.is (later m w c.args.sized.tabled c.requires c.in-Err.ensures))
    (λ l _. halt l)
    (λ _ v. absurd (omega (arith, (judged_number 10 13 v refl (λ e. omega arith)).0)))

pub returns-in_default : goal.returns-in_default
returns-in_default c = judged_or (later _ c.args.words.now c.args.sized.tabled c.requires c.in_default.ensures) (λ _ e. absurd (omega arith)) pass

pub returns-in_default-refusal : goal.returns-in_default-refusal
returns-in_default-refusal c = judged_or (later _ c.args.words.now c.args.sized.tabled c.requires c.in-Err.ensures) (λ _ e. absurd (c.in_default-refusal.not-Beyond _ (is_beyond _ e))) pass
