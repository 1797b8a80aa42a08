-- `first_unreached` searches the states for one that `reached` leaves out.
use Rattle.std.proofs.Common.{◌≡◌, rules, tests, true, false, get_or}
use Rattle.std.proofs.lemmas.Iterator.{first_from_Range}
use Rattle.verdict.proofs.Found.{found}
use Rattle.tables.proofs.jobs.SoundJob.first_unreached.Goals as goal

pub returns : goal.returns
returns c =
    let seen = c.reached-seen.result in
    found c.find.result
    (first_from_Range _ _ _ _ (λ s. get_or seen s false ≡ false) (λ s. get_or seen s false ≡ true) c.find.ensures.ran
    (λ s q h. search (rules, tests))
    (λ s q h. (search rules, search (rules, tests))))
    (λ s l e. record { state = l; never = (c.reached-seen.ensures s l).fails e })
    (λ s n u. u.never ((c.reached-seen.ensures s u.state).holds n))
    (λ s u. u.state)
