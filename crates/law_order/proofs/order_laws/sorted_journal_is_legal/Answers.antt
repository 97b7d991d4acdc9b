-- Each entry passes those that come before it, by changes of two neighbours.
use Rattle.law_order.proofs.Orders.{sorted_same}
use Rattle.law_order.proofs.Reached.{in_order_legal, in_order_state, in_order_ascends}
use Rattle.law_order.proofs.Unique.{only_sort}
use Rattle.law_order.proofs.order_laws.sorted_journal_is_legal.Goals as goal

pub returns-clause-legal : goal.returns-clause-legal
returns-clause-legal c = in_order_legal

pub returns-clause-state : goal.returns-clause-state
returns-clause-state c = in_order_state

pub returns-clause-entries : goal.returns-clause-entries
returns-clause-entries c = λ parts parameters journal legal. sorted_same journal

pub returns-clause-ascends : goal.returns-clause-ascends
returns-clause-ascends c = in_order_ascends

pub returns-clause-only : goal.returns-clause-only
returns-clause-only c = λ parts parameters journal legal other same ascends. only_sort parts parameters journal other legal same ascends
