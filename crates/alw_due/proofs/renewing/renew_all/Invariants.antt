-- The nodes so far are renewed.
use Rattle.alw_due.proofs.Renewed.{AreBestsBelow}
use Rattle.alw_due.proofs.renewing.renew_all.Given as goal

abbrev pub invariant-loop-n : goal.invariant-loop-n
invariant-loop-n l = AreBestsBelow l.machine l.costs l.clocks l.n l.bests
