use Rattle.std.proofs.Common.{◌≡◌, arith}
use Rattle.alw_ready.proofs.RowEvents.{starts}
use Rattle.alw_ready.proofs.ready.Ready.start.Goals as goal

pub invariant_of-result : goal.invariant_of-result
invariant_of-result c =
    let all : c.loop-node._node ≡ c.args.nodes = omega arith in
    (starts c.args.nodes c.loop-node.rows.items c.in_ok-tally.tally c.requires (rw (← all) c.loop-node.invariant.0) c.in_ok-tally.ensures, c.in_ok-divisors.ensures)
