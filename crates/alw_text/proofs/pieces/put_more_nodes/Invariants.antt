-- What is written so far, and the nodes that are left, are the whole.
use Rattle.std.proofs.Common.{◌≡◌, ◌++◌}
use Rattle.std.specs.List.{flat_map}
use Rattle.alw_num.specs.NodeSets.{nodes_of, members, count_nodes}
use Rattle.alw_text.specs.Pieces.{next_node}
use Rattle.alw_text.proofs.pieces.put_more_nodes.Given as goal

abbrev pub invariant-loop-node : goal.invariant-loop-node
invariant-loop-node l =
    l.text ++ flat_map next_node (members (nodes_of l.rest)) ≡ l.fn.text ++ flat_map next_node (members (nodes_of l.fn.nodes))

abbrev pub decreases-loop-node : goal.decreases-loop-node
decreases-loop-node l = count_nodes (nodes_of l.rest)
