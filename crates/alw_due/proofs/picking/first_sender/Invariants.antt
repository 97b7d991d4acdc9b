-- The first of the senders that are no longer left.
use Rattle.alw_num.specs.NodeSets.{nodes_of, count_nodes}
use Rattle.alw_due.proofs.Deliveries.{IsFirstSoFar}
use Rattle.alw_due.proofs.picking.first_sender.Given as goal

abbrev pub invariant-loop-from : goal.invariant-loop-from
invariant-loop-from l = IsFirstSoFar l.machine.image l.clocks l.to.0 (nodes_of l.fn.senders) (nodes_of l.left) l.first.0 l.arrival

abbrev pub decreases-loop-from : goal.decreases-loop-from
decreases-loop-from l = count_nodes (nodes_of l.left)
