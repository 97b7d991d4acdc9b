-- Both are told as of the sorted journal.
use Rattle.std.proofs.Common.{ap}
use Rattle.law_times.proofs.Shown.{Shown}
use Rattle.law_times.proofs.MissOrders.{same_ends}
use Rattle.law_times.proofs.Tellings.{same_shown}
use Rattle.law_times.proofs.order_laws.waits_are_of_each_node.Goals as goal

pub returns-clause-accesses : goal.returns-clause-accesses
returns-clause-accesses c = λ parts parameters costs one other legal also same. ap (λ (s : Shown). s.accesses) (same_shown parts parameters costs one other legal also same)

pub returns-clause-queued : goal.returns-clause-queued
returns-clause-queued c = λ parts parameters costs one other legal also same. ap (λ (s : Shown). s.queued) (same_shown parts parameters costs one other legal also same)

pub returns-clause-spent : goal.returns-clause-spent
returns-clause-spent c = λ parts parameters costs one other legal also same. ap (λ (s : Shown). s.spent) (same_shown parts parameters costs one other legal also same)

pub returns-clause-ends : goal.returns-clause-ends
returns-clause-ends c = same_ends
