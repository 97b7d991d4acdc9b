-- Both come to what the sorted journal comes to.
use Rattle.law_order.proofs.Unique.{same_state}
use Rattle.law_order.proofs.order_laws.same_entries_same_state.Goals as goal

pub returns : goal.returns
returns c = same_state
