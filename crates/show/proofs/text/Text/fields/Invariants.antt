use lib.ListN.{drop}
use mathlib.Core.List.{map}
use Rattle.show.specs.Digits.{digits}
use Rattle.show.specs.Sheet.{fields_behind}
use Rattle.show.proofs.Steps.{Left}
use Rattle.show.proofs.text.Text.fields.Given as goal

abbrev pub invariant-loop-setting : goal.invariant-loop-setting
invariant-loop-setting l = Left (fields_behind (map digits l.settings)) (fields_behind (map digits (drop l.setting-index l.settings))) l.initial.self l.self
