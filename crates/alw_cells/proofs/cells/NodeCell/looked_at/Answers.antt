use Rattle.std.proofs.Common.{◌≡◌, ap, ◌∙◌}
use Rattle.alw_num.specs.NodeSets.{nodes_of}
use Rattle.alw_ready.specs.Rows.{delivery}
use Rattle.alw_ready.proofs.Renewing.{is_put}
use Rattle.alw_cells.specs.Cells.{Cell}
use Rattle.alw_cells.specs.Choice.{may_happen}
use Rattle.alw_cells.proofs.cells.NodeCell.looked_at.Goals as goal

pub returns : goal.returns
returns c =
    let n : c.number-to.result.0 ≡ c.args.self.now.node.number = c.number-to.ensures.number ∙ ap (λ (v : Cell). v.node.number) c.self.view_is in
    is_put (nodes_of c.args.senders) _ c.args.from.0 _ _ c.put.ensures (c.may.ensures ∙ (λ x. may_happen c.args.self.now (delivery c.args.from.0 (n x))))
