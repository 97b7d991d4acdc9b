-- Of a node that doesn't exist no message comes.
use Rattle.std.proofs.Common.{sym, ◌∙◌}
use Rattle.std.proofs.lemmas.Bool.{ltb-false}
use Rattle.alw_image.specs.Images.{node_count}
use Rattle.alw_mesh.specs.Keeping.{machine_of}
use Rattle.alw_mesh.proofs.Moves.{nothing_from}
use Rattle.alw_mesh.proofs.meshes.Mesh.head.Goals as goal

pub returns-else-has_node : goal.returns-else-has_node
returns-else-has_node c =
    let inside = c.self.inside in
    let past = ltb-false c.in-Deliver.from.0 (node_count c.args.self.now.image) (sym c.has_node.ensures ∙ c.if-has_node.false) in
    let nowhere = rw (← c.self.view_is) at past in
    rw (← c.self.view_is, c.in-Deliver.is) (nothing_from inside.image (machine_of inside.nodes.items inside.links.links) c.in-Deliver.from c.in-Deliver.to c.self.invariant.aimed.links nowhere)
