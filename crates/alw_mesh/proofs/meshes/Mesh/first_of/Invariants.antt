-- No event so far is enabled.
use Rattle.std.proofs.Common.{◌≡◌, ◌-◌, find, map}
use Rattle.std.specs.List.{range_with_len}
use Rattle.alw_msg.specs.declared.events.Event.TheVariants.{Deliver}
use Rattle.alw_image.specs.Images.{node_count}
use Rattle.alw_model.specs.Machine.{is_enabled}
use Rattle.alw_mesh.specs.Ends.{node_events}
use Rattle.alw_mesh.proofs.meshes.Mesh.first_of.Given as goal

abbrev pub invariant-loop-from : goal.invariant-loop-from
invariant-loop-from l = find (is_enabled l.self.image l.self.parameters l.self.machine) (node_events l.self.image l.node.0)
    ≡ find (is_enabled l.self.image l.self.parameters l.self.machine) (map (λ from. Deliver (record { 0 = from }) l.node) (range_with_len l.from (node_count l.self.image - l.from)))
