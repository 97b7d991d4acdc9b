-- One line more.
use Rattle.std.proofs.Common.{arith}
use Rattle.alw_flat.proofs.Starts.{long, goes_on}
use Rattle.alw_flat.proofs.memory.Memory.start.Goals as goal

pub push_reserved-requires : goal.push_reserved-requires
push_reserved-requires c = omega (arith, long _ _ _ _ _ c.loop-line.invariant, c.loop-line.invariant.fits, c.loop-line-test.true, c.loop-line.values.ok.0)

pub loop-line-preserved : goal.loop-line-preserved
loop-line-preserved c = goes_on _ _ _ _ _ _ _ _ c.loop-line.invariant c.push_reserved.ensures.items c.body.ensures c.push_reserved.ensures.capacity
