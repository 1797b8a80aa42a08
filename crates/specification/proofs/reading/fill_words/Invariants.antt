use mathlib.Core.Path.{◌≡◌}
use Rattle.verdict.specs.Buffers.{Filled}
use Rattle.specification.specs.Records.{word}
use Rattle.specification.proofs.reading.fill_words.Given as goal

abbrev pub invariant-loop-s : goal.invariant-loop-s
invariant-loop-s l = Filled l.s (λ k x. x ≡ word l.specification.file.now l.specification.z k) l.initial.word-items l.word-items
