-- Each later entry passes those that are kept.
use Rattle.law_order.proofs.Cutting.{cut_same}
use Rattle.law_order.proofs.Reached.{cut_whole, cut_state, cut_front, cut_back}
use Rattle.law_order.proofs.order_laws.cut_is_legal.Goals as goal

pub returns-clause-kept : goal.returns-clause-kept
returns-clause-kept c = cut_front

pub returns-clause-later : goal.returns-clause-later
returns-clause-later c = cut_back

pub returns-clause-whole : goal.returns-clause-whole
returns-clause-whole c = cut_whole

pub returns-clause-state : goal.returns-clause-state
returns-clause-state c = cut_state

pub returns-clause-entries : goal.returns-clause-entries
returns-clause-entries c = λ parts parameters journal legal t. cut_same t journal
