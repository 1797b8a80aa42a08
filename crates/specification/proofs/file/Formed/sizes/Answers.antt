-- `sizes` reads kind 1, which lies in the file, the length of kind 3, where kind 2 starts and the count.
use native.Mathlib.Omega.{arith}
use mathlib.Core.List.{List}
use Prim.Native.Nat.{ℕ, ◌+◌, ◌≤◌}
use lib.ListN.{length}
use Rattle.specification.specs.File.{offset_of, WellFormed}
use Rattle.specification.proofs.Laws.{laid_out}
use Rattle.specification.proofs.file.Formed.sizes.Goals as goal

inside : {file : List ℕ} → WellFormed file → offset_of file 0 + 4 ≤ length file
inside {file} w = let o = laid_out file w in omega (arith, o.0, o.1, o.2, w.entries.offset 0 (omega (arith, w.headed.count)))

pub overflow_add-at : goal.overflow_add-at
overflow_add-at c = omega (arith, inside c.args.self.formed, c.args.self.formed.headed.few, c.offset-at.ensures)

pub bounds-self-at : goal.bounds-self-at
bounds-self-at c = omega (arith, inside c.args.self.formed, c.offset-at.ensures)

pub bounds-self-at-2 : goal.bounds-self-at-2
bounds-self-at-2 c = omega (arith, inside c.args.self.formed, c.offset-at.ensures)

pub overflow_add-at-2 : goal.overflow_add-at-2
overflow_add-at-2 c = omega (arith, inside c.args.self.formed, c.args.self.formed.headed.few, c.offset-at.ensures)

pub bounds-self-at-3 : goal.bounds-self-at-3
bounds-self-at-3 c = omega (arith, inside c.args.self.formed, c.offset-at.ensures)

pub overflow_add-at-3 : goal.overflow_add-at-3
overflow_add-at-3 c = omega (arith, inside c.args.self.formed, c.args.self.formed.headed.few, c.offset-at.ensures)

pub bounds-self-at-4 : goal.bounds-self-at-4
bounds-self-at-4 c = omega (arith, inside c.args.self.formed, c.offset-at.ensures)
