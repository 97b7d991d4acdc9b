use Rattle.alw_cells.proofs.Unpacking.{packed_start}
use Rattle.alw_cells.proofs.logs.Log.empty.Goals as goal

pub invariant_of-result : goal.invariant_of-result
invariant_of-result c = packed_start c.args.node.0 c.new.result.items _ c.new.ensures.items
