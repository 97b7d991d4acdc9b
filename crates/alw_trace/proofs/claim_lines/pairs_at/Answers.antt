use Rattle.std.proofs.Common.{arith}
use Rattle.alw_trace.proofs.PairReads.{pairs_room}
use Rattle.alw_trace.proofs.claim_lines.pairs_at.Goals as goal

pub overflow_add-result : goal.overflow_add-result
overflow_add-result c =
    let room = pairs_room c.args.kind c.args.text.now c.loop-kind.rest.now c.loop-kind.pairs.items c.loop-kind.invariant.0.parts in
    omega (arith, room, c.len-in_default.ensures)
