use Rattle.mesh_route.proofs.Runs.{keeps_order}
use Rattle.mesh_route.proofs.hops.Hops.arrivals.Goals as goal

pub returns-clause-in_order : goal.returns-clause-in_order
returns-clause-in_order c = keeps_order _ _ _ c.requires.from c.requires.to
