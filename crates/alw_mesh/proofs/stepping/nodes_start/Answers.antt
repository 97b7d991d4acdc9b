-- One node more.
use Rattle.std.proofs.Common.{length, sym, ap, ◌∙◌, arith}
use Rattle.std.proofs.lemmas.List.FromFn.{length-map-range_with_len, map-range_with_len_more}
use Rattle.alw_node.specs.Nodes.{whole_start}
use Rattle.alw_mesh.proofs.stepping.nodes_start.Goals as goal

pub push_reserved-requires : goal.push_reserved-requires
push_reserved-requires c =
    let count = ap length c.loop-n.invariant.nodes ∙ length-map-range_with_len (whole_start c.args.image.now c.args.params.now) 0 c.loop-n.n in
    omega (arith, c.loop-n.nodes.ok, c.loop-n.invariant.room)

pub loop-n-preserved : goal.loop-n-preserved
loop-n-preserved c =
    let f = whole_start c.args.image.now c.args.params.now in
    record {
      nodes = c.push_reserved.ensures.items ∙ (rw (c.loop-n.invariant.nodes, c.in_ok-start_shared.ensures) (sym (map-range_with_len_more f 0 c.loop-n.n c.loop-n.n (omega arith))));
      room = omega (arith, c.push_reserved.ensures.capacity, c.loop-n.invariant.room);
    }
