-- No event of a node so far is enabled.
use Rattle.std.proofs.Common.{◌≡◌, ◌-◌, find, flat_map}
use Rattle.std.specs.List.{range_with_len}
use Rattle.alw_image.specs.Images.{node_count}
use Rattle.alw_model.specs.Machine.{is_enabled, main_events}
use Rattle.alw_mesh.specs.Ends.{node_events}
use Rattle.alw_mesh.proofs.meshes.Mesh.first_enabled.Given as goal

abbrev pub invariant-loop-n : goal.invariant-loop-n
invariant-loop-n l = find (is_enabled l.self.image l.self.parameters l.self.machine) (main_events l.self.image)
    ≡ find (is_enabled l.self.image l.self.parameters l.self.machine) (flat_map (node_events l.self.image) (range_with_len l.n (node_count l.self.image - l.n)))
