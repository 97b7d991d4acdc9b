-- The nodes that are left, behind what is written so far, are the whole list.
use Rattle.std.proofs.Common.{◌≡◌, map}
use Rattle.alw_num.specs.NodeSets.{nodes_of, members, count_nodes}
use Rattle.serde_json.specs.View.{items_of}
use Rattle.alw_json.specs.Data.{natural}
use Rattle.alw_json.specs.Onto.{items_onto}
use Rattle.alw_json.proofs.parts.NodesToJson.write.Given as goal

abbrev pub invariant-loop-node : goal.invariant-loop-node
invariant-loop-node l =
    items_onto (items_of (map natural (members (nodes_of l.rest)))) l.out ≡ items_onto (items_of (map natural (members (nodes_of l.self.0)))) l.initial.out

abbrev pub decreases-loop-node : goal.decreases-loop-node
decreases-loop-node l = count_nodes (nodes_of l.rest)
