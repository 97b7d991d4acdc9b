use Rattle.std.proofs.Common.{arith}
use Rattle.alw_ready.proofs.RowEvents.{nth_delivery, counts_in_time}
use Rattle.alw_ready.proofs.rows.Row.nth.Goals as goal

pub returns-else-k-deliver : goal.returns-else-k-deliver
returns-else-k-deliver c =
    let row = c.args.self.now in
    nth_delivery c.args.node.0 row c.args.k (counts_in_time row c.args.k c.requires).0 c.sender.result.0 _ (omega arith) c.if-k-deliver.false c.sender.ensures
