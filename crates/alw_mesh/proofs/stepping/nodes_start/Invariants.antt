-- The nodes so far are those of the numbers so far, and there is room for the rest.
use Rattle.std.proofs.Common.{◌≡◌, ◌≤◌, map, vec_capacity}
use Rattle.std.specs.List.{range_with_len}
use Rattle.alw_node.specs.Nodes.{whole_start}
use Rattle.alw_mesh.proofs.stepping.nodes_start.Given as goal

abbrev pub invariant-loop-n : goal.invariant-loop-n
invariant-loop-n l = record {
  nodes : l.nodes.items ≡ map (whole_start l.image l.params) (range_with_len 0 l.n);
  room : l.count ≤ vec_capacity l.nodes;
}
