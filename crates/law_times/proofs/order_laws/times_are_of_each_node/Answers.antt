-- Both have the times of the sorted journal.
use Rattle.law_times.proofs.Orders.{same_times}
use Rattle.law_times.proofs.order_laws.times_are_of_each_node.Goals as goal

pub returns : goal.returns
returns c = same_times
