-- No more lines have a set than there are places.
use Rattle.dir_soft.proofs.Pools.{used_fits}
use Rattle.dir_soft.proofs.tables.SoftDir.free.Goals as goal

pub overflow_sub-result : goal.overflow_sub-result
overflow_sub-result c = used_fits _ _ _ _ _ c.self.invariant.0
