-- The loop sends to the members that are left.
use Rattle.alw_num.specs.NodeSets.{nodes_of, count_nodes}
use Rattle.dir_full.proofs.Invalidations.{InvsAreUnderWay}
use Rattle.dir_full.proofs.sets.invalidate.Given as goal

abbrev pub invariant-loop-node : goal.invariant-loop-node
invariant-loop-node l = InvsAreUnderWay l.fn.sent l.sent l.line (nodes_of l.fn.set) (nodes_of l.rest)

abbrev pub decreases-loop-node : goal.decreases-loop-node
decreases-loop-node l = count_nodes (nodes_of l.rest)
