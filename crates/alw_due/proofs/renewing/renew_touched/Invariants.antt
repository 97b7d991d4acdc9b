-- Each node is right but for the deliveries of the sends that are left.
use Rattle.std.proofs.Common.{drop}
use Rattle.alw_due.proofs.Renewed.{AreBestsAside}
use Rattle.alw_due.proofs.renewing.renew_touched.Given as goal

abbrev pub invariant-loop-i : goal.invariant-loop-i
invariant-loop-i l = AreBestsAside l.machine l.costs l.clocks l.node.0 (drop l.i l.sent.messages) l.bests
