-- What a function is given has the form that soundness and history ask for: a log has 32 entries, and a reading words of 16 outputs. Both are what the types of their fields say.
use mathlib.Core.Path.{◌≡◌}
use mathlib.Core.List.{List}
use mir.Val.{Val}
use denote.Laws.{Is}
use denote.Struct.Laws as LL
use lib.ListN.{length}
use Rattle.bench.specs.declared.Reading.{Reading}
use Rattle.bench.specs.declared.Log.{Log}
use Rattle.bench.specs.Log.{most_entries}
use Rattle.bench.specs.History.{Fits}
use Rattle.bench.specs.contracts.Reading as R
use Rattle.bench.proofs.Reading.TheLaws as R'
use Rattle.bench.specs.contracts.Log as L
use Rattle.bench.proofs.Log.TheLaws as L'

pub reading_fits : (r : Reading) (vs : List Val) → Is R.the_row r vs → Fits r
reading_fits r vs is = let parts = LL.owed R.the_type R'.the_laws r vs is in record { expected = parts.1.1.1.0.1; seen = parts.1.1.1.1.0.1 }

pub log_entries : (l : Log) (vs : List Val) → Is L.the_row l vs → length l.entries ≡ most_entries
log_entries l vs is = (LL.owed L.the_type L'.the_laws l vs is).1.1.1.0.1.0.1
