-- The later one takes nothing that the earlier one sent, since its stamp would be greater.
use Rattle.law_order.proofs.Reached.{swapped_legal, swapped_state, swapped_nodes}
use Rattle.law_order.proofs.order_laws.neighbours_swap.Goals as goal

pub returns-clause-legal : goal.returns-clause-legal
returns-clause-legal c = swapped_legal

pub returns-clause-state : goal.returns-clause-state
returns-clause-state c = swapped_state

pub returns-clause-nodes : goal.returns-clause-nodes
returns-clause-nodes c = swapped_nodes
