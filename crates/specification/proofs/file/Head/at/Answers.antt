-- The entries end with the file at most, so that there are few.
use native.Mathlib.Omega.{arith}
use Rattle.specification.proofs.file.Head.at.Goals as goal

pub entry_at-requires : goal.entry_at-requires
entry_at-requires c = omega (arith, c.requires, c.args.self.headed.enough, c.args.self.headed.few)
