-- `check_moves` passes or halts at each check in turn; a table that passes both is sound.
use Rattle.std.specs.Prelude.{Some, None}
use Rattle.verdict.proofs.Order.{halt}
use Rattle.tables.specs.Tables.{machine_in}
use Rattle.tables.proofs.Gate.{move_passed}
use Rattle.tables.proofs.Transients.{stateless_finds}
use Rattle.tables.proofs.jobs.SizedJob.check_moves.Goals as goal

pub returns-in-Some-clause-verdict : goal.returns-in-Some-clause-verdict
returns-in-Some-clause-verdict c = halt (stateless_finds _ _ _ (Some c.in-Some.couple) c.in-Some.ensures)

pub invariant_of-result : goal.invariant_of-result
invariant_of-result c = record { checked = move_passed (machine_in c.args.self.job) c.args.self.tabled (stateless_finds _ _ _ None c.in_default.ensures, (c.in_default-first_transient.ensures, tt)) }
