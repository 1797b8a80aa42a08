use lib.ListN.{drop}
use Rattle.show.proofs.Steps.{Left}
use Rattle.show.proofs.text.Text.word.Given as goal

abbrev pub invariant-loop-letter : goal.invariant-loop-letter
invariant-loop-letter l = Left l.word (drop l.letter-index l.word) l.initial.self l.self
