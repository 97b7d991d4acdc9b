use Rattle.std.proofs.Common.{◌≡◌, List, [], replicate, sym, ap, ◌∙◌, arith}
use Rattle.alw_num.specs.Rooms.{Roomed}
use Rattle.alw_msg.specs.declared.messages.Msg.{Msg}
use Rattle.alw_image.specs.Images.{node_count}
use Rattle.alw_model.specs.declared.steps.Did.{Did}
use Rattle.alw_cells.proofs.Moves.{kept_start}
use Rattle.alw_cells.proofs.cells.NodeCell.start_shared.Goals as goal

pub invariant_of-result : goal.invariant_of-result
invariant_of-result c =
    let count : c.from.result ≡ node_count c.args.image.now = c.from.ensures ∙ c.nodes-count.ensures.count in
    kept_start c.args.image.now c.args.params.now c.args.node.0 c.from.result _ _ _ _ _ _ _ c.in_ok-started.ensures c.empty.ensures
    (c.in_ok-lists.ensures ∙ ap (λ n. replicate {A = List Msg} n []) (sym c.from.ensures)) c.empty-2.ensures c.new.ensures.items c.in_ok-room.ensures.room count (omega (arith, c.from.ensures, c.nodes-count.ensures.few)) (ap (λ (r : Roomed Did). r.list) c.empty-3.ensures)
