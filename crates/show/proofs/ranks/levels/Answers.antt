-- The greatest level of the marked couples is how many ranks there are.
use mathlib.Core.Path.{ap, ◌∙◌}
use Prim.Native.Nat.{◌+◌}
use Rattle.std.specs.Prelude.{not, ◌==◌, filter, unwrap_or}
use Rattle.std.proofs.Common.{rules, tests}
use Rattle.std.proofs.lemmas.Iterator.{YieldsList-from_slice, YieldsList-from_map}
use Rattle.std.proofs.lemmas.Iterator.Consumers.{YieldsList-at, YieldsList-from_filter, reduce_from_yields_List}
use Rattle.std.proofs.lemmas.List.Folds.{max_of_map}
use Rattle.machine.specs.Limits.{unmarked}
use Rattle.show.proofs.Counts.{levels_are}
use Rattle.show.proofs.ranks.levels.Goals as goal

pub returns : goal.returns
returns c =
    let s = c.args.ranks.now in
    c.unwrap_or.ensures
    ∙ ap (λ o. unwrap_or o 0) (reduce_from_yields_List _ c.map.result _ c.max.ensures.ran
    (YieldsList-from_map _ (λ x. x + 1)
    (YieldsList-at c.map.ensures.source (YieldsList-from_filter _ (λ x. not (x == unmarked)) (YieldsList-from_slice s cc) c.filter.ensures.closure (λ x b q k. search (rules, tests))))
    c.map.ensures.closure (λ x r q k. search (rules, tests))))
    ∙ max_of_map (λ x. x + 1) (filter (λ x. not (x == unmarked)) s)
    ∙ levels_are s
