use Rattle.alw_times.proofs.Walks.{AreOut}
use Rattle.alw_times.proofs.leaving.send_all.Given as goal

abbrev pub invariant-loop-i : goal.invariant-loop-i
invariant-loop-i l = AreOut l.image l.costs l.leave l.from.0 l.fn.port l.fn.arrivals.items l.sends.messages l.i l.free l.arrivals.items
