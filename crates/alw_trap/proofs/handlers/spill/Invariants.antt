-- The pointers that are left, and those that have joined.
use Rattle.alw_num.specs.NodeSets.{nodes_of, count_nodes, add_node, join_nodes}
use Rattle.dir_soft.specs.Tables.{set_of_line}
use Rattle.alw_trap.proofs.Spills.{SpillIsUnderWay}
use Rattle.alw_trap.proofs.handlers.spill.Given as goal

abbrev pub invariant-loop-node : goal.invariant-loop-node
invariant-loop-node l = SpillIsUnderWay l.fn.soft l.soft l.line.0 (add_node (join_nodes (nodes_of l.fn.hardware) (set_of_line l.fn.soft l.line.0)) l.fn.sender.0) (nodes_of l.rest)

abbrev pub decreases-loop-node : goal.decreases-loop-node
decreases-loop-node l = count_nodes (nodes_of l.rest)
