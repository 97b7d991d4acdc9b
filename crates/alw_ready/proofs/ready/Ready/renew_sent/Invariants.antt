use Rattle.alw_ready.proofs.Renewing.{AreLeft}
use Rattle.alw_ready.proofs.ready.Ready.renew_sent.Given as goal

abbrev pub invariant-loop-i : goal.invariant-loop-i
invariant-loop-i g l = AreLeft (g.V.View.image l.view) (g.V.View.parameters l.view) (g.V.View.state l.view) l.from.0 l.sends.messages l.fn.self l.i l.self
