use Rattle.alw_num.specs.NodeSets.{AreBelow, nodes_of, count_nodes}
use Rattle.alw_image.specs.Images.{node_count}
use Rattle.alw_ready.specs.Rows.{delivery}
use Rattle.alw_ready.specs.Fits.{may_happen}
use Rattle.alw_ready.proofs.Renewing.{AreFound}
use Rattle.alw_ready.proofs.renewals.deliverable_of.Given as goal

abbrev pub invariant-loop-from : goal.invariant-loop-from
invariant-loop-from g l = AreFound (λ from. may_happen (g.V.View.image l.view) (g.V.View.parameters l.view) (g.V.View.state l.view) (delivery from l.to.0)) (nodes_of l.found) (nodes_of l.rest) × AreBelow (node_count (g.V.View.image l.view)) (nodes_of l.rest)

abbrev pub decreases-loop-from : goal.decreases-loop-from
decreases-loop-from g l = count_nodes (nodes_of l.rest)
