-- `read_sound` blanks both buffers after a refusal by 4 to 13, and leaves them filled otherwise.
use native.Mathlib.Omega.{arith}
use mathlib.Core.Path.{refl}
use mathlib.Core.Logic.{inl}
use Rattle.verdict.proofs.Order.{judged_number}
use Rattle.verdict.proofs.Fills.{filled_at, left_blank, left_filled}
use Rattle.verdict.proofs.Refusals.{refusal_number}
use Rattle.specification.proofs.reading.read_sound.Goals as goal

pub returns-in-Ok : goal.returns-in-Ok
returns-in-Ok c = record { judged = c.in-Ok.ensures.judged; table = left_filled (inl refl) c.in-Ok.ensures.table; words = left_filled (inl refl) c.in-Ok.ensures.words }

pub returns-in-Err : goal.returns-in-Err
returns-in-Err c = let k = judged_number 4 13 c.in-Err.ensures.judged refl (λ e. omega (arith, refusal_number c.in-Err.refusal)) in
    record {
      judged = c.in-Err.ensures.judged;
      table = left_blank k.0 k.1 c.in-Err.ensures.table (filled_at c.blank_table.ensures c.couples.ensures);
      words = left_blank k.0 k.1 c.in-Err.ensures.words c.blank_words.ensures;
    }
