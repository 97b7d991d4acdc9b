-- The first packet that brings something.
use Rattle.std.proofs.Common.{◌<◌, [], ◌∷◌, ◌++◌, take, length, option_to_list, refl, sym, ap, ◌∙◌, arith}
use Rattle.std.proofs.lemmas.List.{take_more}
use Rattle.std.proofs.lemmas.Option.{get_or_from_slice_get}
use Rattle.alw_mesh.specs.Values.{brought_home, all_brought_home}
use Rattle.alw_mesh.proofs.Finding.{home_more, none_more, first_is}
use Rattle.alw_mesh.proofs.values.brought_by_packets.Goals as goal

pub returns-in-Some : goal.returns-in-Some
returns-in-Some c =
    let line = c.args.line.0 in
    let packets = c.args.node.now.state.packets in
    let packet = c.in_ok-packet.packet in
    let within : c.loop-i.i < length packets = omega (arith, c.loop-i-test.true, c.packets-i-end.ensures.count) in
    let here = get_or_from_slice_get packets c.loop-i.i packet packet (sym c.packet.ensures ∙ c.in_ok-packet.was) in
    first_is (brought_home line) (all_brought_home line) refl (home_more line) packets c.loop-i.i packet c.in-Some.body within c.loop-i.invariant (sym here) (sym c.brought_home.ensures ∙ ap option_to_list c.in-Some.is)

pub loop-i-preserved : goal.loop-i-preserved
loop-i-preserved c =
    let line = c.args.line.0 in
    let packets = c.args.node.now.state.packets in
    let packet = c.in_ok-packet.packet in
    let within : c.loop-i.i < length packets = omega (arith, c.loop-i-test.true, c.packets-i-end.ensures.count) in
    let here = get_or_from_slice_get packets c.loop-i.i packet packet (sym c.packet.ensures ∙ c.in_ok-packet.was) in
    let taken = take_more packets c.loop-i.i packet within ∙ ap (λ x. take c.loop-i.i packets ++ x ∷ []) here in
    ap (all_brought_home line) taken
    ∙ none_more (brought_home line) (all_brought_home line) refl (home_more line) (take c.loop-i.i packets) packet c.loop-i.invariant (sym c.brought_home.ensures ∙ ap option_to_list c.in_default.is)
