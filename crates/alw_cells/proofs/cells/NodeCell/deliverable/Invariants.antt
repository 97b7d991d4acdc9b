use Rattle.alw_num.specs.NodeSets.{nodes_of, count_nodes}
use Rattle.alw_ready.specs.Rows.{delivery}
use Rattle.alw_ready.proofs.Renewing.{AreFound}
use Rattle.alw_cells.specs.Choice.{may_happen}
use Rattle.alw_cells.proofs.cells.NodeCell.deliverable.Given as goal

abbrev pub invariant-loop-from : goal.invariant-loop-from
invariant-loop-from l = AreFound (λ from. may_happen l.fn.self (delivery from l.fn.self.node.number)) (nodes_of l.found) (nodes_of l.rest)

abbrev pub decreases-loop-from : goal.decreases-loop-from
decreases-loop-from l = count_nodes (nodes_of l.rest)
