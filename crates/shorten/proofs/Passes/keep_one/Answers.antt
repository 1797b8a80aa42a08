-- `keep_one` asks whether the run stays, and then moves it down.
use Rattle.std.proofs.Common.{rules, ◌≡◌, ◌-◌, drop}
use Rattle.std.proofs.Math.Seq.{paste}
use Rattle.shorten.proofs.Keeping.{turn_by}
use Rattle.shorten.proofs.Passes.keep_one.Goals as goal

pub returns-then-not-stays : goal.returns-then-not-stays
returns-then-not-stays c = (turn_by c.stays.ensures).0 c.if-not-stays.true

pub returns : goal.returns
returns c =
    let a = c.args in
    let down : c.copy_within.new.self ≡ paste a.plan.now a.to (drop a.at a.plan.now) (a.end - a.at) = search rules in
    rw down ((turn_by c.stays.ensures).1 c.if-not-stays.false)
