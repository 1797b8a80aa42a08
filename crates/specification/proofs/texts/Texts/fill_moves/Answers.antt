-- `fill_moves` searches at as many settings as the inputs have.
use Rattle.specification.proofs.texts.Texts.fill_moves.Goals as goal

pub search-requires-clause-room : goal.search-requires-clause-room
search-requires-clause-room c = let m = c.settings.ensures.few.0 c.args.self.placed.laid.ranges.few_inputs in (c.settings.ensures.few.1, rw m c.requires.long)

pub returns : goal.returns
returns c = let m = c.settings.ensures.few.0 c.args.self.placed.laid.ranges.few_inputs in record { finds = rw m at c.search.ensures.finds; fills = rw m at c.search.ensures.fills }
