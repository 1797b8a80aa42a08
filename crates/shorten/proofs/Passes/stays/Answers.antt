-- `stays` asks how far the run's marks are the plan's length already, and how far they reach its end from there on.
use Rattle.std.proofs.Common.{sym, ap, subst, ◌∙◌, true, ℕ, List}
use Rattle.tables.specs.Tables.{machine_in}
use Rattle.shorten.specs.inner.Marked.{Stay}
use Rattle.shorten.specs.inner.Marked.Stay.{goes, stays}
use Rattle.shorten.proofs.Walking.{walk_run, walk_rest, mark_rest, rest_reaches, rest_fails}
use Rattle.shorten.proofs.Passes.stays.Goals as goal

pub reach-kept-requires : goal.reach-kept-requires
reach-kept-requires c = walk_run c.args.run.now c.args.self.now.sound.checked.sound.begins c.requires.run

pub reach-requires : goal.reach-requires
reach-requires c = walk_rest c.requires.run c.reach-kept.ensures c.args.self.now.sound.checked.sound.begins

pub returns-then-reach-rest : goal.returns-then-reach-rest
returns-then-reach-rest c = goes (rest_reaches c.requires.run c.reach-kept.ensures c.requires.few.1 c.reach.ensures c.if-reach-rest.true)

pub mark-requires : goal.mark-requires
mark-requires c = walk_rest c.requires.run c.reach-kept.ensures c.args.self.now.sound.checked.sound.begins

pub returns : goal.returns
returns c =
    let a = c.args in
    let k = a.self.now in
    let e = mark_rest c.requires.run c.reach-kept.ensures c.requires.few.0 in
    subst (Stay (machine_in k.sound.job) a.run.now a.end a.total k true) (sym (c.mark.ensures ∙ ap (λ (l : List ℕ). record k { marks = record k.marks { now = l } }) e))
    (stays (rest_fails c.requires.run c.reach-kept.ensures c.requires.few.1 c.reach.ensures c.if-reach-rest.false))
