use Rattle.alw_ready.proofs.Renewing.{FitBelow}
use Rattle.alw_ready.proofs.ready.Ready.renew_all.Given as goal

abbrev pub invariant-loop-at : goal.invariant-loop-at
invariant-loop-at g l = FitBelow (g.V.View.image l.view) (g.V.View.parameters l.view) (g.V.View.state l.view) l.at l.self
