-- Nothing stands for any node.
use Rattle.alw_due.proofs.Renewed.{none_stands}
use Rattle.alw_due.proofs.renewing.bests_of.Goals as goal

pub renew_all-requires-clause-past : goal.renew_all-requires-clause-past
renew_all-requires-clause-past c = λ n from. rw c.in_ok-bests.ensures (none_stands 256 n)
