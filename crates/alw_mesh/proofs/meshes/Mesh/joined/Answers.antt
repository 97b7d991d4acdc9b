-- Nodes and links that are put together are those of the machine.
use Rattle.std.proofs.Common.{List, refl, ap, ◌∙◌}
use Rattle.alw_tally.specs.Remaining.{remains_of}
use Rattle.alw_node.specs.Nodes.{Whole}
use Rattle.alw_mesh.specs.Joins.{states_of}
use Rattle.alw_mesh.proofs.Joined.{machine_joined, grid_joined}
use Rattle.alw_mesh.proofs.meshes.Mesh.joined.Goals as goal

pub invariant_of-result : goal.invariant_of-result
invariant_of-result c =
    let all = c.remains_at-remains.ensures ∙ ap (λ (xs : List Whole). remains_of (states_of xs)) c.deref.ensures.value in
    rw c.in_ok-copy.ensures (grid_joined c.args.image.now c.args.params.now c.args.nodes c.in_ok-nodes.nodes.items c.args.links c.in_ok-nodes.ensures
    c.remains_at-remains.result c.nodes-allowed.ensures.allowed c.requires.nodes c.requires.counted c.requires.aimed all)

pub returns : goal.returns
returns c = record {
  image_is = c.in_ok-copy.ensures;
  parameters_are = refl;
  machine_is = machine_joined c.args.image.now c.args.params.now c.args.nodes c.in_ok-nodes.nodes.items c.args.links c.in_ok-nodes.ensures;
}
