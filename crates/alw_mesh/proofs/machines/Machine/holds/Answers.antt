-- Replies are used, or held.
use Rattle.std.proofs.Common.{arith}
use Rattle.alw_mesh.proofs.Reading.{replies_are, replies_told, few_holds}
use Rattle.alw_mesh.proofs.machines.Machine.holds.Goals as goal

pub overflow_sub-result : goal.overflow_sub-result
overflow_sub-result c = omega (arith, replies_told c.self.invariant c.counts-counts.result c.counts-counts.ensures)

pub overflow_cast-result : goal.overflow_cast-result
overflow_cast-result c = omega (arith, replies_told c.self.invariant c.counts-counts.result c.counts-counts.ensures, few_holds c.self.invariant)

pub returns-clause-count : goal.returns-clause-count
returns-clause-count c = rw (← c.self.view_is) (omega (arith, replies_told c.self.invariant c.counts-counts.result c.counts-counts.ensures))

pub returns-clause-replies : goal.returns-clause-replies
returns-clause-replies c = rw (← c.self.view_is) (omega (arith, replies_are c.self.invariant, replies_told c.self.invariant c.counts-counts.result c.counts-counts.ensures))
