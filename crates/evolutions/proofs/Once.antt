-- The promise of `evolution_holds` leaves one answer, because it decides one statement.
use mathlib.Core.Path.{◌≡◌}
use mathlib.Core.Bool.{Bool}
use mathlib.Core.List.{List}
use Prim.Native.Nat.{ℕ}
use Rattle.verdict.specs.Checks.{Decides}
use Rattle.verdict.proofs.Tests.{decides_unique}
use Rattle.evolutions.specs.Evolutions.{Met}
use Rattle.evolutions.specs.declared.Evolution.{Evolution}

pub only : (file : List ℕ) (e : Evolution) (inputs v : ℕ) (r q : Bool) → Decides (Met file e inputs v) r → Decides (Met file e inputs v) q → r ≡ q
only file e inputs v r q = decides_unique (Met file e inputs v) r q
