-- A refusal has its number and place alone, and a job's result its answer: the refusal that a number names, at a place, is read back, by cases.
use Rattle.std.specs.Prelude.{Result, Ok, Err}
use Rattle.std.proofs.Common.{◌≡◌, ℕ, ◌≤◌, refl, sym, ap, ◌∙◌, cond, arith}
use lib.Dec.{eqb}
use Rattle.verdict.specs.declared.Answer.{Answer}
use Rattle.verdict.specs.declared.Refusal.{Refusal}
use Rattle.verdict.specs.declared.Refusal.TheVariants.{Malformed, WrongSize, ShortBuffer, Beyond, Unread, OwnSource, Repeated, TwoRules, NoRule, Transient, SameWord, Unreached, NoStart, NoCouple, Unmarked, ShortRun, NoRun, UnsoundLog, NoPlan, Unvisited}
use Rattle.verdict.specs.Refusals.{number_of, place_of, refused_by, answer_of, verdict_of}

-- the refusal of a number and a place
abbrev named : ℕ → ℕ → Refusal
named n p =
    cond (eqb n 1) Malformed
    (cond (eqb n 2) WrongSize
    (cond (eqb n 3) (ShortBuffer p)
    (cond (eqb n 4) (Beyond p)
    (cond (eqb n 5) (Unread p)
    (cond (eqb n 6) (OwnSource p)
    (cond (eqb n 7) (Repeated p)
    (cond (eqb n 8) (TwoRules p)
    (cond (eqb n 9) (NoRule p)
    (cond (eqb n 10) (Transient p)
    (cond (eqb n 11) (SameWord p)
    (cond (eqb n 12) (Unreached p)
    (cond (eqb n 13) NoStart
    (cond (eqb n 14) NoCouple
    (cond (eqb n 15) Unmarked
    (cond (eqb n 16) (ShortRun p)
    (cond (eqb n 17) (NoRun p)
    (cond (eqb n 18) UnsoundLog
    (cond (eqb n 19) (NoPlan p)
    Unvisited))))))))))))))))))

named_again : (r : Refusal) → named (number_of r) (place_of r) ≡ r
named_again Malformed = refl
named_again WrongSize = refl
named_again (ShortBuffer p) = refl
named_again (Beyond p) = refl
named_again (Unread p) = refl
named_again (OwnSource p) = refl
named_again (Repeated p) = refl
named_again (TwoRules p) = refl
named_again (NoRule p) = refl
named_again (Transient p) = refl
named_again (SameWord p) = refl
named_again (Unreached p) = refl
named_again NoStart = refl
named_again NoCouple = refl
named_again Unmarked = refl
named_again (ShortRun p) = refl
named_again (NoRun p) = refl
named_again UnsoundLog = refl
named_again (NoPlan p) = refl
named_again Unvisited = refl

-- no refusal has number 0
pub refusal_number : (r : Refusal) → 1 ≤ number_of r
refusal_number Malformed = omega arith
refusal_number WrongSize = omega arith
refusal_number (ShortBuffer p) = omega arith
refusal_number (Beyond p) = omega arith
refusal_number (Unread p) = omega arith
refusal_number (OwnSource p) = omega arith
refusal_number (Repeated p) = omega arith
refusal_number (TwoRules p) = omega arith
refusal_number (NoRule p) = omega arith
refusal_number (Transient p) = omega arith
refusal_number (SameWord p) = omega arith
refusal_number (Unreached p) = omega arith
refusal_number NoStart = omega arith
refusal_number NoCouple = omega arith
refusal_number Unmarked = omega arith
refusal_number (ShortRun p) = omega arith
refusal_number (NoRun p) = omega arith
refusal_number UnsoundLog = omega arith
refusal_number (NoPlan p) = omega arith
refusal_number Unvisited = omega arith

pub refused_once : (r s : Refusal) → refused_by r ≡ refused_by s → r ≡ s
refused_once r s e = sym (named_again r) ∙ ap (λ (a : Answer). named a.number a.place) e ∙ named_again s

-- no success is a refusal
other : (r : Refusal) → 0 ≡ number_of r → ⊥
other r e = let h = refusal_number r in omega arith

pub answer_once : (r s : Result ℕ Refusal) → answer_of r ≡ answer_of s → r ≡ s
answer_once (Ok m) (Ok n) e = ap (λ (a : Answer). Ok a.place) e
answer_once (Ok m) (Err s) e = absurd (other s (ap (λ (a : Answer). a.number) e))
answer_once (Err r) (Ok n) e = absurd (other r (sym (ap (λ (a : Answer). a.number) e)))
answer_once (Err r) (Err s) e = ap Err (refused_once r s e)

pub verdict_once : (r s : Result (Unit {0}) Refusal) → verdict_of r ≡ verdict_of s → r ≡ s
verdict_once (Ok m) (Ok n) e = refl
verdict_once (Ok m) (Err s) e = absurd (other s (ap (λ (a : Answer). a.number) e))
verdict_once (Err r) (Ok n) e = absurd (other r (sym (ap (λ (a : Answer). a.number) e)))
verdict_once (Err r) (Err s) e = ap Err (refused_once r s e)
