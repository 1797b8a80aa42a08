-- `may_change` decides a change: the setting is below the size and not ruled out, and the ones of the exclusive or are the inputs that
-- differ.
use Rattle.std.proofs.Common.{◌≡◌, ◌<◌, ◌^◌, ℕ, Bool, true, sym, ap, subst, ◌∙◌, arith}
use mathlib.Core.Bool.{and-eq-true_iff}
use lib.Bits.{bit_xor}
use lib.Count.{ones}
use Rattle.verdict.specs.Checks.{Decides}
use Rattle.verdict.proofs.Tests.{decides_map, decides_true}
use Rattle.machine.specs.Runs.{usable, may_alter, Changes}
use Rattle.machine.proofs.Ones.{differing_ones}
use Rattle.tables.specs.Tables.{machine_in}
use Rattle.tables.specs.declared.Job.{Job}
use Rattle.runs.proofs.faults.may_change.Goals as goal

-- of a setting that passed the first two tests the number of ones decides
counted : (job : Job) (v w : ℕ) {b : Bool} → v < 2 ^ job.frame.inputs → w < 2 ^ job.frame.inputs → usable job.frame w ≡ true → job.several ≡ b
    → Decides (Changes (machine_in job) v w) (may_alter b (ones (bit_xor v w)))
counted job v w from to free e =
    let same = ap (may_alter job.several) (differing_ones job.frame.inputs v w from to) in
    subst (λ b. Decides (Changes (machine_in job) v w) (may_alter b (ones (bit_xor v w)))) e (decides_map
    (λ e. record { below = to; allowed = (and-eq-true_iff _ _).1 (free, same ∙ e) })
    (λ x. sym same ∙ ((and-eq-true_iff (usable job.frame w) _).0 x.allowed).1)
    (decides_true (may_alter job.several (ones (bit_xor v w)))))

pub returns-then-sized : goal.returns-then-sized
returns-then-sized c = let a = c.args in counted a.sized.job a.from a.to c.requires (omega arith) (sym c.usable.ensures ∙ c.if-not-usable.false) c.if-sized.true

pub returns : goal.returns
returns c = let a = c.args in counted a.sized.job a.from a.to c.requires (omega arith) (sym c.usable.ensures ∙ c.if-not-usable.false) c.if-sized.false
