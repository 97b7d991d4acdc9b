-- No packet so far is about the line.
use Rattle.std.proofs.Common.{◌≡◌, [], take}
use Rattle.alw_model.specs.Machine.{node_at}
use Rattle.alw_mesh.specs.Histories.{state_of}
use Rattle.alw_laws.specs.Shown.{of_line}
use Rattle.alw_laws.proofs.showing.packet.Given as goal

abbrev pub invariant-loop-i : goal.invariant-loop-i
invariant-loop-i l = of_line l.line.0 (take l.i (node_at (state_of l.machine) l.at.0).packets) ≡ []
