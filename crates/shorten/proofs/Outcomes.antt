-- Passing the checks of shortening gives the two passes stored runs of the table, and makes the verdict of the whole.
use mathlib.Core.Path.{◌≡◌, refl}
use mathlib.Core.List.{List, []}
use Prim.Native.Nat.{ℕ}
use native.Mathlib.Omega.{arith}
use Rattle.verdict.specs.Checks.{Passed, Judged}
use Rattle.verdict.specs.Refusals.{number_of, refused_by}
use Rattle.verdict.specs.declared.Answer.{Answer}
use Rattle.verdict.specs.declared.Refusal.{Refusal}
use Rattle.verdict.proofs.Order.{judged_on, judged_stop, judged_passes, judged_within}
use Rattle.verdict.proofs.Fills.{written_nothing}
use Rattle.verdict.proofs.Refusals.{refusal_number}
use Rattle.machine.specs.Runs.{Machine}
use Rattle.tables.specs.Tables.{Tabled, table_checks}
use Rattle.runs.specs.Stored.{StoredRuns, broken_checks}
use Rattle.runs.proofs.Broken.{stored_runs}
use Rattle.shorten.specs.Shortening.{shorten_checks, ShortenDone, ShortenedAs}
use Rattle.shorten.specs.inner.Passing.{Kept}

-- the answer of a check that passed
abbrev nothing : Answer
nothing = record { number = 0; place = 0 }

-- a refusal by 19 writes nothing
pub no_runs : {m : Machine} {bytes : List ℕ} (r : Refusal) → Tabled m → Judged (table_checks m) Passed nothing → Judged (broken_checks m bytes) Passed (refused_by r) → ShortenedAs m bytes (refused_by r) bytes
no_runs r k v w =
    let n : number_of r ≡ 0 → ⊥ = λ e. omega (arith, refusal_number r) in
    record { verdict = judged_stop [] (judged_on 10 v refl refl (judged_within k w)) n; plan = written_nothing n }

module _ {m : Machine} {bytes : List ℕ} (k : Tabled m) (w : Judged (broken_checks m bytes) Passed nothing) where
  pub split : StoredRuns m bytes
  split = (stored_runs m bytes).0 (judged_passes 19 (judged_within k w) refl refl).0

  pub done : {n : ℕ} {plan : List ℕ} → Judged (table_checks m) Passed nothing → Kept m bytes n plan → Judged (shorten_checks m bytes) (ShortenDone m bytes) (record { number = 0; place = n })
  done v x =
      judged_on 10 v refl refl (judged_on 19 (judged_within k w) refl refl
      (record { verdict = record { number = refl; kept = x.bytes; shortened = x.shortened; place = x.count } }))
