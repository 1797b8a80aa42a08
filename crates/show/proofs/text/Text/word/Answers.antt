-- What is left of the word is to be written.
use Rattle.show.proofs.Lists.{drop_next}
use Rattle.show.proofs.Steps.{left_less, left_cut}
use Rattle.show.proofs.text.Text.word.Goals as goal

pub returns-in_err-byte : goal.returns-in_err-byte
returns-in_err-byte c = left_cut _ (rw (drop_next c.args.word.now c.loop-letter.letter-index c.loop-letter-test.true) at c.loop-letter.invariant) c.in_err-byte.ensures c.from_residual.ensures.0

pub loop-letter-preserved : goal.loop-letter-preserved
loop-letter-preserved c = left_less (rw (drop_next c.args.word.now c.loop-letter.letter-index c.loop-letter-test.true) at c.loop-letter.invariant) c.in_ok-byte.ensures
