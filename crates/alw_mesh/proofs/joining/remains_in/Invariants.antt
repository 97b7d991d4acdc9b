use Rattle.std.proofs.Common.{◌≡◌, ◌≤◌}
use Rattle.alw_tally.specs.Remaining.{live_in, trapped_in}
use Rattle.alw_mesh.proofs.Remains.{so_far}
use Rattle.alw_mesh.proofs.joining.remains_in.Given as goal

-- the slots so far are counted
abbrev pub invariant-loop-slot : goal.invariant-loop-slot
invariant-loop-slot l = record {
  live : l.live ≡ live_in (so_far l.node.state l.slot);
  trapped : l.trapped ≡ trapped_in (so_far l.node.state l.slot);
  few_live : l.live ≤ l.slot;
  few_trapped : l.trapped ≤ l.slot;
}
