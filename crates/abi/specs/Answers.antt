-- What an exported answer to an update says, in the words of the log's definitions. Assumes nothing: these are definitions.
use Rattle.bench.specs.declared.Log.{Log}
use Rattle.bench.specs.Log.{Outcome}
use Rattle.abi.specs.declared.Noted.{Noted}

-- an answer in numbers, and the log after it
abbrev pub outcome_of : Noted → Log → Outcome
outcome_of a l = record { number = a.number; place = a.place; kind = a.kind; log = l }
