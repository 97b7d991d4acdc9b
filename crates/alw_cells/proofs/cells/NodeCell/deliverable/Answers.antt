use Rattle.std.proofs.Common.{refl, subst}
use Rattle.alw_num.specs.NodeSets.{nodes_of}
use Rattle.alw_ready.specs.Rows.{delivery}
use Rattle.alw_ready.proofs.Renewing.{found_more, found_all}
use Rattle.alw_cells.specs.Cells.{Cell}
use Rattle.alw_cells.specs.Choice.{may_happen}
use Rattle.alw_cells.specs.Keeping.{AreSenders}
use Rattle.alw_cells.proofs.Choosing.{found_start}
use Rattle.alw_cells.proofs.cells.NodeCell.deliverable.Goals as goal

pub loop-from-init : goal.loop-from-init
loop-from-init c = found_start c.args.self.now c.self.inside.senders (nodes_of c.empty-found.result)
    (subst (λ (v : Cell). AreSenders v.come c.self.inside.senders) c.self.view_is c.self.invariant.kept.sent_by) c.empty-found.ensures

pub loop-from-preserved : goal.loop-from-preserved
loop-from-preserved c = found_more (λ from. may_happen c.args.self.now (delivery from c.args.self.now.node.number)) (nodes_of c.loop-from.found) (nodes_of c.looked_at-found.result)
    (nodes_of c.loop-from.rest) (nodes_of c.without-rest.result) c.in-Some.from.0 c.loop-from.invariant c.without-rest.ensures c.looked_at-found.ensures

pub returns : goal.returns
returns c = found_all (λ from. may_happen c.args.self.now (delivery from c.args.self.now.node.number)) (nodes_of c.loop-from.found) (nodes_of c.loop-from.rest) c.loop-from.invariant (c.in_default.ensures.none.0 refl)

pub returns-then-is_empty : goal.returns-then-is_empty
returns-then-is_empty c =
    let start = found_start c.args.self.now c.self.inside.senders (nodes_of c.empty.result)
    (subst (λ (v : Cell). AreSenders v.come c.self.inside.senders) c.self.view_is c.self.invariant.kept.sent_by) c.empty.ensures in
    found_all (λ from. may_happen c.args.self.now (delivery from c.args.self.now.node.number)) (nodes_of c.empty.result) (nodes_of c.self.inside.senders) start (c.is_empty.ensures.0 c.if-is_empty.true)
