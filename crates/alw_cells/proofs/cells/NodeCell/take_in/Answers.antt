use Rattle.std.proofs.Common.{◌<◌, sym, subst, arith}
use Rattle.alw_image.specs.Images.{node_count}
use Rattle.alw_cells.specs.Cells.{Cell, as_carried}
use Rattle.alw_cells.proofs.Moves.{keeps_pushing}
use Rattle.alw_cells.proofs.cells.NodeCell.take_in.Goals as goal

pub with-self-inside-requires : goal.with-self-inside-requires
with-self-inside-requires c =
    let here : c.args.from.0 < node_count c.self.inside.node.parts = subst (λ (v : Cell). c.args.from.0 < node_count v.node.parts)
    (sym c.self.view_is) c.requires in
    omega (arith, here, c.self.invariant.kept.replayed.ins, c.self.invariant.kept.few)

pub invariant_of-self-2 : goal.invariant_of-self-2
invariant_of-self-2 c =
    let here : c.args.from.0 < node_count c.self.inside.node.parts = subst (λ (v : Cell). c.args.from.0 < node_count v.node.parts)
    (sym c.self.view_is) c.requires in
    record {
      kept = keeps_pushing _ _ _ _ _ _ _ _ c.args.from.0 (as_carried c.args.msg) c.index_mut.result.now _ c.self.invariant.kept
          (omega (arith, here, c.self.invariant.kept.replayed.ins)) c.index_mut.ensures.value c.in_ok-push.ensures.ok c.with-self-inside.ensures;
      own =
          c.self.invariant.own;
    }
