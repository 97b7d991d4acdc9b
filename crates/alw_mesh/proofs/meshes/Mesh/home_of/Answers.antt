-- The home of a line is a node.
use Rattle.std.proofs.Common.{◌∙◌}
use Rattle.alw_mesh.proofs.OneNode.{home_exists}
use Rattle.alw_mesh.proofs.meshes.Mesh.home_of.Goals as goal

pub returns-clause-exists : goal.returns-clause-exists
returns-clause-exists c =
    let exists = rw (← c.self.view_is) at c.requires in
    rw (← c.self.view_is) (home_exists c.self.inside.image c.self.invariant.image_is c.args.line.0 c.from.result c.home_of.result.0 (c.from.ensures ∙ c.per_node.ensures) c.home_of.ensures exists)
