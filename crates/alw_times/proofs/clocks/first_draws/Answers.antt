-- One node's draws more.
use Rattle.std.proofs.Common.{length, sym, ap, ◌∙◌, arith}
use Rattle.std.proofs.lemmas.List.FromFn.{length-map-range_with_len, map-range_with_len_more}
use Rattle.alw_times.specs.Times.{first_draw}
use Rattle.alw_times.proofs.clocks.first_draws.Goals as goal

pub push_reserved-requires : goal.push_reserved-requires
push_reserved-requires c =
    let count = ap length c.loop-node.invariant.states ∙ length-map-range_with_len (first_draw c.args.costs.now) 0 c.loop-node.node in
    omega (arith, count, c.loop-node-test.true, c.loop-node.draws.ok, c.loop-node.invariant.room)

pub loop-node-preserved : goal.loop-node-preserved
loop-node-preserved c =
    let f = first_draw c.args.costs.now in
    record {
      states = c.push_reserved.ensures.items ∙ (rw (c.loop-node.invariant.states, c.first_draw.ensures) (sym (map-range_with_len_more f 0 c.loop-node.node c.loop-node.node (omega arith))));
      room = omega (arith, c.push_reserved.ensures.capacity, c.loop-node.invariant.room);
    }
