-- The packet and the messages that were passed are accounted for.
use Rattle.std.proofs.Common.{◌+◌, ◌≤◌, ◌++◌, take}
use Rattle.alw_model.specs.Lines.{ups}
use Rattle.alw_laws.specs.Traffic.{IsTrafficUp, sent}
use Rattle.alw_laws.specs.Views.{link_in}
use Rattle.alw_laws.specs.Parts.{packet_said_by}
use Rattle.alw_laws.proofs.views.LineView.up_of.Given as goal

abbrev pub invariant-loop-place : goal.invariant-loop-place
invariant-loop-place l =
    let passed = link_in (take l.place l.self.links) l.number.0 l.self.at.0 in
    IsTrafficUp l.up (packet_said_by l.self l.number.0 ++ ups l.self.line.0 passed) × (sent l.up ≤ l.place + 1)
