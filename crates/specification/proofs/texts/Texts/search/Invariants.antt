use mathlib.Core.Path.{◌≡◌}
use Prim.Native.Nat.{◌+◌, ◌*◌, ◌-◌, ◌≤◌, ◌<◌}
use lib.ListN.{length}
use Rattle.verdict.specs.Buffers.{Filled}
use Rattle.std.specs.Prelude.{None}
use Rattle.verdict.proofs.Tests.{Unseen}
use Rattle.specification.specs.Rules.{rule_of, leads_to, TwoRules}
use Rattle.specification.specs.inner.Private.{rest_of, Noted}
use Rattle.specification.proofs.Scan.{Tally, Applies, Onward}
use Rattle.specification.proofs.texts.Texts.search.Given as goal

abbrev pub invariant-loop-r : goal.invariant-loop-r
invariant-loop-r l = (l.r ≤ l.count) × (l.r < l.count → rule_of l.self.file.now l.self.z l.r ≡ l.s) × (l.found ≡ None) × Tally (Applies l.self.file.now l.self.z l.s l.v) (leads_to l.self.file.now l.self.z) (rest_of l.self.z.worded l.s) l.r l.to × (l.self.z.worded ≤ l.r)

abbrev pub decreases-loop-r : goal.decreases-loop-r
decreases-loop-r l = l.count - l.r

abbrev pub invariant-loop-v : goal.invariant-loop-v
invariant-loop-v l = (l.v ≤ l.m) × (l.found ≡ None) × Unseen (TwoRules l.self.file.now l.self.z l.m) (l.s * l.m + l.v) × (l.self.z.states * l.m ≤ length l.table) × Onward (Noted l.self.file.now l.self.z l.m) (l.s * l.m) (l.s * l.m + l.v) l.initial.table l.table

abbrev pub decreases-loop-v : goal.decreases-loop-v
decreases-loop-v l = l.m - l.v

abbrev pub invariant-search : goal.invariant-search
invariant-search l = (l.s ≤ l.self.z.states) × (l.found ≡ None) × Unseen (TwoRules l.self.file.now l.self.z l.m) (l.s * l.m) × Filled (l.s * l.m) (Noted l.self.file.now l.self.z l.m) l.initial.table l.table

abbrev pub decreases-search : goal.decreases-search
decreases-search l = l.self.z.states - l.s
