-- The first packet about the line.
use Rattle.std.proofs.Common.{ℕ, sym, ap, ◌∙◌}
use Rattle.alw_msg.specs.Lists.{front}
use Rattle.alw_model.specs.Machine.{node_at}
use Rattle.alw_mesh.specs.Histories.{state_of}
use Rattle.alw_laws.specs.Shown.{of_line}
use Rattle.alw_laws.proofs.Collected.{first_packet, passes_packet}
use Rattle.alw_laws.proofs.showing.packet.Goals as goal

pub returns-then-eq : goal.returns-then-eq
returns-then-eq c =
    let machine = state_of c.args.machine.now in
    first_packet c.args.line.0 (node_at machine c.home_of-at.result.0).packets c.loop-i.i c.in_ok-packet.packet (sym c.packet.ensures ∙ c.in_ok-packet.was) c.loop-i.invariant c.if-eq.ensures
    ∙ ap (λ (at : ℕ). front (of_line c.args.line.0 (node_at machine at).packets)) c.home_of-at.ensures.home

pub loop-i-preserved : goal.loop-i-preserved
loop-i-preserved c =
    let machine = state_of c.args.machine.now in
    passes_packet c.args.line.0 (node_at machine c.home_of-at.result.0).packets c.loop-i.i c.in_ok-packet.packet (sym c.packet.ensures ∙ c.in_ok-packet.was) c.loop-i.invariant c.if-eq.ensures
