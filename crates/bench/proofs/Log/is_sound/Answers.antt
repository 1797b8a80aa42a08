-- `is_sound` meets its contract: with 33 differences or more the counts are not compared, and the tests before that are those of the definition.
use Rattle.std.proofs.Common.{rules, arith}
use Rattle.bench.proofs.Chains.{sound_by}
use Rattle.bench.proofs.Log.is_sound.Goals as goal

pub returns-then-differing-gt-ENTRIES : goal.returns-then-differing-gt-ENTRIES
returns-then-differing-gt-ENTRIES c = sound_by c.args.self.now _ (omega arith) (omega arith) (search rules)
