-- The copy has none, so the first is on the link from the home, or else on the one to it.
use Rattle.std.proofs.Common.{List, sym, ap, ◌∙◌}
use Rattle.alw_msg.specs.declared.messages.Msg.{Msg}
use Rattle.alw_msg.specs.Lists.{front}
use Rattle.alw_model.specs.Machine.{link_at}
use Rattle.alw_mesh.specs.Values.{all_brought_home, all_brought_out}
use Rattle.alw_mesh.proofs.Finding.{front_here, front_behind}
use Rattle.alw_mesh.proofs.meshes.Mesh.shown.Goals as goal

pub returns-in-Some-brought_out_on : goal.returns-in-Some-brought_out_on
returns-in-Some-brought_out_on c =
    let line = c.args.line.0 in
    let none = sym (rw (c.node.ensures.parameters, c.node.ensures.state) at c.owned_by.ensures) ∙ c.in_default.is in
    let out = sym (c.brought_out_on.ensures ∙ ap (λ (msgs : List Msg). front (all_brought_out line msgs)) c.link.ensures) ∙ c.in-Some-brought_out_on.is in
    sym (front_behind _ _ none ∙ front_here _ (all_brought_home line (link_at c.args.self.now.image c.args.self.now.machine c.args.n.0 c.args.home.0)) c.in-Some-brought_out_on.body out)

pub returns : goal.returns
returns c =
    let line = c.args.line.0 in
    let none = sym (rw (c.node.ensures.parameters, c.node.ensures.state) at c.owned_by.ensures) ∙ c.in_default.is in
    let nor = sym (c.brought_out_on.ensures ∙ ap (λ (msgs : List Msg). front (all_brought_out line msgs)) c.link.ensures) ∙ c.in_default-brought_out_on.is in
    let home = c.brought_home_on.ensures ∙ ap (λ (msgs : List Msg). front (all_brought_home line msgs)) c.link-2.ensures in
    home ∙ sym (front_behind _ _ none ∙ front_behind _ _ nor)
