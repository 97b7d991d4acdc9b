-- The packets so far.
use Rattle.std.proofs.Common.{◌≡◌, ◌++◌, take}
use Rattle.std.specs.List.{flat_map}
use Rattle.alw_mesh.specs.Readings.{node_in}
use Rattle.alw_save.specs.Lines.{packet_line}
use Rattle.alw_save.proofs.messages.put_packets.Given as goal

abbrev pub invariant-loop-place : goal.invariant-loop-place
invariant-loop-place l = l.text ≡ l.fn.text ++ flat_map packet_line (take l.place (node_in l.machine l.n.0).packets)
