-- A packet more, up to the last one.
use Rattle.std.proofs.Common.{List, ◌++◌, ap, ◌∙◌, arith}
use Rattle.std.specs.List.{flat_map}
use Rattle.std.proofs.lemmas.List.{take_all}
use Rattle.alw_msg.specs.declared.messages.Msg.{Msg}
use Rattle.alw_mesh.specs.Readings.{node_in}
use Rattle.alw_save.specs.Lines.{packet_line}
use Rattle.alw_save.specs.States.{member_line}
use Rattle.alw_num.proofs.Lists.{grows_by_member}
use Rattle.alw_save.proofs.messages.put_packets.Goals as goal

pub loop-place-preserved : goal.loop-place-preserved
loop-place-preserved c =
    grows_by_member packet_line c.loop-place.place (node_in c.args.machine.now c.args.n.0).packets _ _ _ _ c.loop-place.invariant c.in_ok-put_packet.ensures
    (ap (member_line packet_line) c.packet.ensures)

pub returns : goal.returns
returns c =
    let packets = (node_in c.args.machine.now c.args.n.0).packets in
    c.loop-place.invariant ∙ ap (λ (msgs : List Msg). c.args.text.now ++ flat_map packet_line msgs)
    (take_all c.loop-place.place packets (omega (arith, c.loop-place-test.false, c.packets-place-end.ensures.count)))
