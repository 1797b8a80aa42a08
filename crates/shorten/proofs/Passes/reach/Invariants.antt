use Rattle.tables.specs.Tables.{machine_in}
use Rattle.shorten.proofs.Walking.{Reaching}
use Rattle.shorten.proofs.Passes.reach.Given as goal

abbrev pub invariant-loop-settings : goal.invariant-loop-settings
invariant-loop-settings l = Reaching (machine_in l.self.sound.job) l.from l.run l.x l.self.marks.now l.state l.settings
