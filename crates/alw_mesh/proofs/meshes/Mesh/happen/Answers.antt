-- By its share a node does what the machine does; nodes and links stay those of the image.
use Rattle.std.proofs.Common.{◌≡◌, ℕ, true, false, List, ap, subst, ◌∙◌, arith}
use Rattle.alw_model.specs.Contexts.{Slot}
use Rattle.alw_model.specs.NodeStates.{NodeState}
use Rattle.alw_links.specs.Traffic.{after_sends}
use Rattle.alw_mesh.specs.Keeping.{HasTrapPc}
use Rattle.alw_mesh.proofs.Grids.{is_kept, nodes_named, node_may, node_given, nodes_counted, sends_exist, sends_fit, sender_exists, remains_may, acted_there, links_stay, grid_kept, happens, happens_quietly}
use Rattle.alw_mesh.proofs.Quiet.{takes_off_none, remains_stay}
use Rattle.alw_mesh.proofs.meshes.Mesh.happen.Goals as goal

pub head-head-requires : goal.head-head-requires
head-head-requires c = nodes_named c.self.invariant c.args.entry.event (rw (← c.self.view_is) at c.requires.enabled)

pub drop_head-requires : goal.drop_head-requires
drop_head-requires c = nodes_named c.self.invariant c.args.entry.event (rw (← c.self.view_is) at c.requires.enabled)

pub act-acted-requires-clause-here : goal.act-acted-requires-clause-here
act-acted-requires-clause-here c =
    let enabled = rw (← c.self.view_is) at c.requires.enabled in
    let place = c.from-place.ensures ∙ c.node-number.ensures in
    rw place (is_kept c.self.invariant c.args.entry.event enabled)

pub act-acted-requires-clause-enabled : goal.act-acted-requires-clause-enabled
act-acted-requires-clause-enabled c =
    let enabled = rw (← c.self.view_is) at c.requires.enabled in
    let place = c.from-place.ensures ∙ c.node-number.ensures in
    rw (place, c.head-head.ensures) (node_may c.self.invariant c.args.entry.event enabled)

pub act-acted-requires-clause-taken : goal.act-acted-requires-clause-taken
act-acted-requires-clause-taken c =
    let enabled = rw (← c.self.view_is) at c.requires.enabled in
    rw c.head-head.ensures (node_given c.self.invariant c.args.entry.event enabled)

pub act-acted-requires-clause-room : goal.act-acted-requires-clause-room
act-acted-requires-clause-room c =
    let enabled = rw (← c.self.view_is) at c.requires.enabled in
    let place = c.from-place.ensures ∙ c.node-number.ensures in
    let count = nodes_counted c.self.invariant c.args.entry.event enabled in let room = rw (← c.self.view_is) at c.requires.sends in rw place (omega arith)

pub send_all-requires-clause-from : goal.send_all-requires-clause-from
send_all-requires-clause-from c =
    let enabled = rw (← c.self.view_is) at c.requires.enabled in
    let place = c.from-place.ensures ∙ c.node-number.ensures in
    rw c.node-number.ensures (sender_exists c.self.invariant c.args.entry.event enabled place c.head-head.ensures c.drop_head.ensures c.act-acted.ensures)

pub send_all-requires-clause-to : goal.send_all-requires-clause-to
send_all-requires-clause-to c =
    let enabled = rw (← c.self.view_is) at c.requires.enabled in
    let place = c.from-place.ensures ∙ c.node-number.ensures in
    sends_exist c.self.invariant c.args.entry.event enabled place c.head-head.ensures c.drop_head.ensures c.act-acted.ensures

pub send_all-requires-clause-room : goal.send_all-requires-clause-room
send_all-requires-clause-room c =
    let enabled = rw (← c.self.view_is) at c.requires.enabled in
    let place = c.from-place.ensures ∙ c.node-number.ensures in
    let links = rw (← c.self.view_is) at c.requires.links in
    let room = rw (← c.self.view_is) at c.requires.sends in
    sends_fit c.self.invariant c.args.entry.event enabled place c.head-head.ensures c.drop_head.ensures c.act-acted.ensures (omega arith)

pub follow-requires : goal.follow-requires
follow-requires c =
    let enabled = rw (← c.self.view_is) at c.requires.enabled in
    let place = c.from-place.ensures ∙ c.node-number.ensures in
    let few = rw (← c.self.view_is) at c.requires.few in
    remains_may c.self.invariant c.args.entry.event enabled place c.head-head.ensures c.drop_head.ensures c.act-acted.ensures few

pub invariant_of-self : goal.invariant_of-self
invariant_of-self c =
    let enabled = rw (← c.self.view_is) at c.requires.enabled in
    let place = c.from-place.ensures ∙ c.node-number.ensures in
    let turn = c.in-Some.ensures.1 in
    let links = takes_off_none c.args.entry.event c.act-acted.result.did c.act-acted.result.changes_holds turn c.self.inside.links in
    grid_kept c.self.invariant c.args.entry.event enabled place c.head-head.ensures links c.act-acted.ensures (links_stay c.self.invariant c.args.entry.event enabled place c.head-head.ensures links c.act-acted.ensures turn)
    (remains_stay c.args.entry.event c.act-acted.result.did c.act-acted.result.changes_holds turn c.self.inside.remains)

pub returns-in-Some : goal.returns-in-Some
returns-in-Some c =
    let enabled = rw (← c.self.view_is) at c.requires.enabled in
    let place = c.from-place.ensures ∙ c.node-number.ensures in
    let turn = c.in-Some.ensures.1 in
    let links = takes_off_none c.args.entry.event c.act-acted.result.did c.act-acted.result.changes_holds turn c.self.inside.links in
    let room = rw (← c.self.view_is) at c.requires.sends in
    rw (← c.self.view_is, c.quiet_turn.ensures)
    (happens_quietly c.self.invariant c.args.entry.event enabled place c.head-head.ensures links c.act-acted.ensures (links_stay c.self.invariant c.args.entry.event enabled place c.head-head.ensures links c.act-acted.ensures turn)
    c.args.entry.stamp c.in-Some.slot c.in-Some.ensures.0 turn room)

pub invariant_of-self-2 : goal.invariant_of-self-2
invariant_of-self-2 c =
    let enabled = rw (← c.self.view_is) at c.requires.enabled in
    let place = c.from-place.ensures ∙ c.node-number.ensures in
    let moved = c.send_all.ensures ∙ ap (λ (n : ℕ). after_sends c.drop_head.new.links n c.act-acted.new.sent.messages) c.node-number.ensures in
    grid_kept c.self.invariant c.args.entry.event enabled place c.head-head.ensures c.drop_head.ensures c.act-acted.ensures moved c.follow.ensures

pub returns : goal.returns
returns c =
    let enabled = rw (← c.self.view_is) at c.requires.enabled in
    let place = c.from-place.ensures ∙ c.node-number.ensures in
    let moved = c.send_all.ensures ∙ ap (λ (n : ℕ). after_sends c.drop_head.new.links n c.act-acted.new.sent.messages) c.node-number.ensures in
    let room = rw (← c.self.view_is) at c.requires.sends in
    rw (← c.self.view_is, c.copied-taken.ensures)
    (happens c.self.invariant c.args.entry.event enabled place c.head-head.ensures c.drop_head.ensures c.act-acted.ensures moved c.args.entry.stamp c.uses_hold.result false c.trap_pc.result
    (λ (is : false ≡ true). absurd (cc)) room c.uses_hold.ensures
    (subst (λ (slots : List Slot). HasTrapPc slots c.trap_pc.result c.act-acted.result.did)
    (ap (λ (n : NodeState). n.slots) (acted_there c.self.invariant c.args.entry.event enabled place c.head-head.ensures c.drop_head.ensures c.act-acted.ensures c.index.result.now c.index.ensures)) c.trap_pc.ensures))
