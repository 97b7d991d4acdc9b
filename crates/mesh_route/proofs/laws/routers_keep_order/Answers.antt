use Rattle.mesh_route.proofs.Runs.{keeps_order}
use Rattle.mesh_route.proofs.laws.routers_keep_order.Goals as goal

pub returns : goal.returns
returns c = keeps_order
