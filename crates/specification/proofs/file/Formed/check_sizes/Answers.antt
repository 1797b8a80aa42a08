-- The file that is answered is laid out, by the sizes that were read of it.
use Rattle.specification.proofs.Laws.{laid_read}
use Rattle.specification.proofs.file.Formed.check_sizes.Goals as goal

pub invariant_of-result : goal.invariant_of-result
invariant_of-result c = record { laid = laid_read (c.args.self.formed, c.sized.ensures.holds c.if-not-sized.false, c.sizes-z.ensures); read = c.sizes-z.ensures }
