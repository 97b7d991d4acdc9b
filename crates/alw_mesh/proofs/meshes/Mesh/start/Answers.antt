-- The nodes and links at the start of the image.
use Rattle.std.proofs.Common.{ap}
use Rattle.alw_model.specs.Machine.{MachineState}
use Rattle.alw_mesh.proofs.Starts.{start_is, grid_starts}
use Rattle.alw_mesh.proofs.meshes.Mesh.start.Goals as goal

pub invariant_of-result : goal.invariant_of-result
invariant_of-result c =
    let empty = rw (c.from.ensures, c.nodes-count.ensures.count) at c.in_ok-start.ensures in
    rw (c.in_ok-copy.ensures, c.in_ok-nodes_start.ensures, c.nodes-count.ensures.count)
    (grid_starts c.args.image.now c.args.params.now c.nodes-count.ensures.allowed c.in_ok-start.field-0 c.start-2.result empty c.start-2.ensures)

pub returns : goal.returns
returns c =
    let image = c.args.image.now in
    let params = c.args.params.now in
    rw (c.in_ok-copy.ensures, c.in_ok-nodes_start.ensures, c.in_ok-start.ensures, c.from.ensures, c.nodes-count.ensures.count)
    (ap (λ (m : MachineState). record { image = image; parameters = params; machine = m; room = 0 }) (start_is image params c.nodes-count.ensures.allowed))
