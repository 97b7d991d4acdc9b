-- The packets so far bring nothing.
use Rattle.std.proofs.Common.{◌≡◌, [], take}
use Rattle.alw_mesh.specs.Values.{all_brought_home}
use Rattle.alw_mesh.proofs.values.brought_by_packets.Given as goal

abbrev pub invariant-loop-i : goal.invariant-loop-i
invariant-loop-i l = all_brought_home l.line.0 (take l.i l.node.state.packets) ≡ []
