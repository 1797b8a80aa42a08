-- An update has one outcome: its number, place and kind tell its answers apart, so its answer and the log after it are fixed by the log before and the reading.
use native.Mathlib.Omega.{arith}
use mathlib.Core.Path.{◌≡◌, refl, sym, ap, ◌∙◌}
use mathlib.Core.Bool.{cond}
use lib.Dec.{eqb}
use Rattle.std.specs.Prelude.{Result, Ok, Err}
use Rattle.verdict.specs.declared.Answer.{Answer}
use Rattle.verdict.specs.declared.Refusal.{Refusal}
use Rattle.verdict.proofs.Refusals.{refusal_number, refused_once}
use Rattle.bench.specs.declared.Reading.{Reading}
use Rattle.bench.specs.declared.Log.{Log}
use Rattle.bench.specs.declared.Noted.{Noted}
use Rattle.bench.specs.declared.Noted.TheVariants.{Equal, Stored, Full}
use Rattle.bench.specs.Log.{Outcome, stored, full, outcome, update_of}

-- the answer of this kind, of an update that is accepted
abbrev noted_of : Outcome → Noted
noted_of o = cond (eqb o.kind full) Full (cond (eqb o.kind stored) Stored Equal)

noted_back : (n : Noted) (l : Log) → noted_of (outcome (Ok n) l) ≡ n
noted_back Equal l = refl
noted_back Stored l = refl
noted_back Full l = refl

same_answer : (a a' : Result Noted Refusal) (l l' : Log) → outcome a l ≡ outcome a' l' → a ≡ a'
same_answer (Ok n) (Ok n') l l' e = ap Ok (sym (noted_back n l) ∙ ap noted_of e ∙ noted_back n' l')
same_answer (Ok n) (Err r) l l' e = absurd (omega (arith, refusal_number r, ap (λ (o : Outcome). o.number) e))
same_answer (Err r) (Ok n) l l' e = absurd (omega (arith, refusal_number r, ap (λ (o : Outcome). o.number) e))
same_answer (Err r) (Err s) l l' e = let answer : Outcome → Answer = λ o. record { number = o.number; place = o.place } in ap Err (refused_once r s (ap answer e))

pub only : (before : Log) (r : Reading) (a a' : Result Noted Refusal) (after after' : Log)
    → outcome a after ≡ update_of before r → outcome a' after' ≡ update_of before r → (a ≡ a') × (after ≡ after')
only before r a a' after after' e e' = let same = e ∙ sym e' in (same_answer a a' after after' same, ap (λ (o : Outcome). o.log) same)
