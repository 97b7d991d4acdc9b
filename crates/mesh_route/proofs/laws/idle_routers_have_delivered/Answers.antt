use Rattle.mesh_route.proofs.Runs.{delivers}
use Rattle.mesh_route.proofs.laws.idle_routers_have_delivered.Goals as goal

pub returns : goal.returns
returns c = delivers
