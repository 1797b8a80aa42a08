use Rattle.verdict.specs.Buffers.{Filled}
use Rattle.specification.specs.inner.Private.{Follows}
use Rattle.specification.proofs.records.Records.next_rules.Given as goal

abbrev pub invariant-loop-r : goal.invariant-loop-r
invariant-loop-r l = Filled l.r (Follows l.self.file.now l.self.z) l.initial.link-items l.link-items
