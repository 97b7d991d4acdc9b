-- The starts so far.
use Rattle.std.proofs.Common.{◌≡◌, map, length}
use Rattle.std.specs.List.{range_with_len}
use Rattle.alw_gen.specs.Workloads.{start_of_node}
use Rattle.alw_gen.proofs.workloads.starts_of.Given as goal

abbrev pub invariant-loop-node : goal.invariant-loop-node
invariant-loop-node l = record {
  members : l.starts ≡ map (start_of_node l.size) (range_with_len 0 l.node);
  count : length l.starts ≡ l.node;
}
