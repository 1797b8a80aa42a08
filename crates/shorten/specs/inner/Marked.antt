-- What a turn of the second pass does with a run, over the marks that both passes go by.
use Rattle.std.specs.Prelude.{List, Bool, true, false, ℕ, ◌-◌, length, drop}
use Rattle.std.proofs.Math.Seq.{paste}
use Rattle.machine.specs.Runs.{Machine, visits}
use Rattle.shorten.specs.inner.Passing.{noted, Reach}
use Rattle.shorten.specs.declared.Passes.{Passes}

-- the same table, and each couple of the list marked with x
abbrev pub marked : List ℕ → ℕ → Passes → Passes
marked cs x k = record k { marks = record k.marks { now = noted cs x k.marks.now } }

-- whether the run vs, stored up to byte e, stays; its couples then have marks of the plan's length
pub data Stay (m : Machine) (vs : List ℕ) (e total : ℕ) (k : Passes) : Bool → Passes → Type 0 where
  goes : Reach (visits m vs) e k.marks.now → Stay m vs e total k false k
  stays : (Reach (visits m vs) e k.marks.now → ⊥) → Stay m vs e total k true (marked (visits m vs) total k)

-- what one turn of the second pass does with the run vs, stored from byte p up to byte e: bytes kept, at byte q, then plan and marks
pub data Turn (m : Machine) (vs : List ℕ) (p e q : ℕ) (plan : List ℕ) (k : Passes) : ℕ → List ℕ → Passes → Type 0 where
  out : Reach (visits m vs) e k.marks.now → Turn m vs p e q plan k 0 plan k
  stays : (Reach (visits m vs) e k.marks.now → ⊥) → Turn m vs p e q plan k (e - p) (paste plan q (drop p plan) (e - p)) (marked (visits m vs) (length plan) k)
