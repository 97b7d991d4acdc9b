use Rattle.std.proofs.Common.{◌≡◌, ◌≤◌, ◌*◌, take}
use Rattle.alw_tally.specs.Remaining.{remains_of}
use Rattle.alw_mesh.specs.Joins.{states_of}
use Rattle.alw_mesh.proofs.joining.remains_at.Given as goal

-- the nodes so far are counted
abbrev pub invariant-loop-node : goal.invariant-loop-node
invariant-loop-node l = record {
  all : l.all ≡ remains_of (states_of (take l.node-index l.nodes));
  live : l.all.live ≤ 4 * l.node-index;
  trapped : l.all.trapped ≤ 4 * l.node-index;
  packets : l.all.packets ≤ 4096 * l.node-index;
}
