-- `settle` goes through refusals 4 to 13: the checks of records, the scan of the rules, the checks of the filled table and words.
use Rattle.specification.specs.inner.Private.{filled_checks}
use Rattle.verdict.specs.Checks.{Judged, Passed}
use Rattle.machine.specs.Runs.{Machine}
use Rattle.std.specs.Prelude.{Result, Ok, Err, IfOk}
use mathlib.Core.Path.{◌≡◌, refl, subst}
use Rattle.verdict.specs.Refusals.{verdict_of}
use Rattle.verdict.specs.declared.Refusal.{Refusal}
use Rattle.verdict.proofs.Order.{judged_on, judged_passes, pass}
use Rattle.verdict.proofs.Fills.{filled_map}
use Rattle.specification.proofs.Settling.{leads_below, settled, carried, moves_left}
use Rattle.specification.proofs.reading.settle.Goals as goal

always : {P : Type 0} (r : Result (Unit {0}) Refusal) → P → IfOk r (λ _. P)
always (Ok _) p = p
always (Err _) p = tt

passed : {P : Type 0} (r : Result (Unit {0}) Refusal) → ((verdict_of r).number ≡ 0 → P) → IfOk r (λ _. P)
passed (Ok _) f = f refl
passed (Err _) f = tt

pub fill_moves-requires-clause-leads : goal.fill_moves-requires-clause-leads
fill_moves-requires-clause-leads c = leads_below c.args.specification.file.now c.args.specification.z (judged_passes 7 c.in_ok-check_records.ensures refl refl).0

pub returns : goal.returns
returns c =
    let a = c.args.specification in
    let r = c.check_moves.result in
    let f = filled_map (λ k x h y. y refl) c.in_default.ensures.fills in
    let t = settled a.laid (judged_passes 7 c.in_ok-check_records.ensures refl refl).0 c.in_default.ensures.finds f c.fill_words.ensures in
    let v = carried t c.requires.0 (subst (λ (m : Machine). Judged (filled_checks m c.fill_words.new.words) Passed (verdict_of r)) c.single-job.ensures.0 c.check_moves.ensures) in
    record {
      judged = judged_on 7 c.in_ok-check_records.ensures refl refl (pass t.single v);
      table = filled_map (λ k x h y. passed r y) (moves_left t v f);
      words = filled_map (λ k x h y. always r y) c.fill_words.ensures;
    }
