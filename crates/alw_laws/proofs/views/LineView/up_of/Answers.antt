-- Each message of the link is accounted for in its turn, behind the packet.
use Rattle.std.proofs.Common.{sym, ◌∙◌, arith}
use Rattle.std.proofs.lemmas.List.{append-nil}
use Rattle.alw_msg.specs.Contents.{request_in}
use Rattle.alw_laws.specs.Traffic.{IsTrafficUp}
use Rattle.alw_laws.specs.Views.{node_in}
use Rattle.alw_laws.specs.Parts.{packet_said_by}
use Rattle.alw_laws.proofs.Links.{goes_on, stays, ends}
use Rattle.alw_laws.proofs.views.LineView.up_of.Goals as goal
use Rattle.alw_laws.proofs.views.LineView.up_of.Goals.{then-is_on, else-is_on}

pub loop-place-init : goal.loop-place-init
loop-place-init c = rw append-nil (c.packet_of-up.ensures.up, c.packet_of-up.ensures.few)

pub loop-place-preserved : goal.loop-place-preserved
loop-place-preserved c =
    let view = c.args.self.now in
    let packet = packet_said_by view c.args.number.0 in
    let sent = c.at_ref-sent.ensures in
    elim c.if-is_on.branch [
      | then-is_on w ↦
          let said = w.gains.ensures.sums _ c.loop-place.invariant.0 in
          let on = sym c.is_on.ensures ∙ w.if-is_on.true in
          let next = goes_on request_in view.line.0 c.args.number.0 view.at.0 view.links c.loop-place.place _ sent (IsTrafficUp w.gains.new.self) packet on said in
          rw w.up-is (next, omega arith)
      | else-is_on w ↦
          let off = sym c.is_on.ensures ∙ w.if-is_on.false in
          let said = c.loop-place.invariant.0 in
          let next = stays request_in view.line.0 c.args.number.0 view.at.0 view.links c.loop-place.place _ sent (IsTrafficUp c.loop-place.up) packet off said in
          rw w.up-is (next, omega arith)
    ]

pub returns-clause-up : goal.returns-clause-up
unfolding node_in
returns-clause-up c =
    let view = c.args.self.now in
    let packet = packet_said_by view c.args.number.0 in
    ends request_in view.line.0 c.args.number.0 view.at.0 view.links c.loop-place.place (IsTrafficUp c.loop-place.up) packet (omega arith) c.loop-place.invariant.0
