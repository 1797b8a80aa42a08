-- A line that is cut has others behind it.
use Rattle.show.specs.Sheet.{count_of, ranks_in}
use Rattle.show.proofs.Counts.{lines_split}
use Rattle.show.proofs.Steps.{adds_then, adds_cut}
use Rattle.show.proofs.text.Text.rank_lines.Goals as goal

pub returns-in_err-rank_line : goal.returns-in_err-rank_line
returns-in_err-rank_line c =
    let (rest, all) = lines_split (λ k. count_of k c.args.ranks.now) c.loop-rank.rank (ranks_in c.args.ranks.now) (rw c.levels-rank-end.ensures at c.loop-rank-test.true) in
    rw all (adds_cut rest (adds_then c.loop-rank.invariant (rw c.count_of.ensures at c.in_err-rank_line.ensures)) c.from_residual.ensures.0)
