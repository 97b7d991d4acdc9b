-- The slot is a context of the flat machine.
use Rattle.std.proofs.Common.{ap, ◌∙◌}
use Rattle.alw_model.specs.Flat.{Context}
use Rattle.alw_model.specs.Runs.{flat_status}
use Rattle.alw_mesh.proofs.Reading.{flat_slot}
use Rattle.alw_mesh.proofs.machines.Machine.status.Goals as goal

pub returns-clause-flat : goal.returns-clause-flat
returns-clause-flat c =
    let exists = rw (← c.self.view_is) at c.requires in
    rw (← c.self.view_is) (ap flat_status c.status.ensures ∙ ap (λ (context : Context). context.status) (flat_slot c.self.invariant c.args.context c.slot-slot.result.0.now c.slot-slot.result.1 exists c.slot-slot.ensures))
