-- Wherever it is found first, it is the current value.
use Rattle.std.proofs.Common.{◌≡◌, ℕ, ◌<◌, ◌≤◌, None, List, sym, ap, subst, ◌∙◌, arith}
use borrow.Author.Count.{below_more}
use Rattle.alw_msg.specs.declared.messages.Msg.{Msg}
use Rattle.alw_msg.specs.Lists.{front}
use Rattle.alw_image.specs.Images.{node_count}
use Rattle.alw_model.specs.NodeStates.{NodeState}
use Rattle.alw_model.specs.Machine.{node_at}
use Rattle.alw_mesh.specs.Values.{all_brought_home, shown_at}
use Rattle.alw_mesh.proofs.Carriers.{value_in_packet, value_shown, value_between}
use Rattle.alw_mesh.proofs.meshes.Mesh.found_value.Goals as goal

pub returns-in-Some : goal.returns-in-Some
returns-in-Some c =
    let grid = c.args.self.now in
    let line = c.args.line.0 in
    let packets = ap (λ (n : NodeState). n.packets) (c.node.ensures.state ∙ ap (node_at grid.machine) c.home_of-home.ensures.home) in
    let found = sym (c.brought_by_packets.ensures ∙ ap (λ (msgs : List Msg). front (all_brought_home line msgs)) packets) ∙ c.in-Some.is in
    value_in_packet grid.image grid.parameters grid.machine line c.requires.one c.in-Some.body c.requires.senders found

pub returns-in-Some-shown : goal.returns-in-Some-shown
returns-in-Some-shown c =
    let grid = c.args.self.now in
    let line = c.args.line.0 in
    let packets = ap (λ (n : NodeState). n.packets) (c.node.ensures.state ∙ ap (node_at grid.machine) c.home_of-home.ensures.home) in
    let none = sym (c.brought_by_packets.ensures ∙ ap (λ (msgs : List Msg). front (all_brought_home line msgs)) packets) ∙ c.in_default.is in
    let within : c.loop-n.n < node_count grid.image = omega (arith, c.loop-n-test.true, c.min-n-end.ensures, c.count.ensures) in
    let found = sym (c.shown.ensures ∙ ap (λ (home : ℕ). front (shown_at grid.image grid.parameters grid.machine c.loop-n.n home line)) c.home_of-home.ensures.home) ∙ c.in-Some-shown.is in
    value_shown grid.image grid.parameters grid.machine line c.requires.one none c.in-Some-shown.body c.loop-n.n within found

pub loop-n-preserved : goal.loop-n-preserved
loop-n-preserved c =
    let grid = c.args.self.now in
    below_more (λ k. c.args.first ≤ k → front (shown_at grid.image grid.parameters grid.machine k c.home_of-home.result.0 c.args.line.0) ≡ None) c.loop-n.n c.loop-n.invariant
    (λ from. sym c.shown.ensures ∙ c.in_default-shown.is)

pub returns : goal.returns
returns c =
    let grid = c.args.self.now in
    let line = c.args.line.0 in
    let packets = ap (λ (n : NodeState). n.packets) (c.node.ensures.state ∙ ap (node_at grid.machine) c.home_of-home.ensures.home) in
    let none = sym (c.brought_by_packets.ensures ∙ ap (λ (msgs : List Msg). front (all_brought_home line msgs)) packets) ∙ c.in_default.is in
    let all = subst (λ (home : ℕ). (k : ℕ) → k < c.loop-n.n → c.args.first ≤ k → front (shown_at grid.image grid.parameters grid.machine k home line) ≡ None) c.home_of-home.ensures.home c.loop-n.invariant in
    c.home.ensures.body
    ∙ value_between grid.image grid.parameters grid.machine line c.requires.one none c.args.first c.args.end c.loop-n.n c.requires.between (λ k from l. all k l from)
    (λ k here past. omega (arith, here, past, c.loop-n-test.false, c.min-n-end.ensures, c.count.ensures))
