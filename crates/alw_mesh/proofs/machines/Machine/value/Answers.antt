-- The current value of a line, which is the flat machine's.
use Rattle.std.proofs.Common.{ap, ◌∙◌}
use Rattle.alw_model.specs.Machine.{MachineState}
use Rattle.alw_model.specs.Lines.{current_value}
use Rattle.alw_mesh.proofs.Reading.{senders_here, one_here, shared_here, owned_here, value_here}
use Rattle.alw_mesh.proofs.machines.Machine.value.Goals as goal

pub value-requires-clause-senders : goal.value-requires-clause-senders
value-requires-clause-senders c = senders_here c.self.invariant c.args.line.0 (rw (← c.self.view_is) at c.requires)

pub value-requires-clause-one : goal.value-requires-clause-one
value-requires-clause-one c = one_here c.self.invariant c.args.line.0 (rw (← c.self.view_is) at c.requires)

pub value-requires-clause-shared : goal.value-requires-clause-shared
value-requires-clause-shared c = shared_here c.self.invariant c.args.line.0 (rw (← c.self.view_is) at c.requires)

pub value-requires-clause-owned : goal.value-requires-clause-owned
value-requires-clause-owned c = owned_here c.self.invariant c.args.line.0 (rw (← c.self.view_is) at c.requires)

pub returns-clause-value : goal.returns-clause-value
returns-clause-value c =
    let mesh = c.self.inside.mesh in
    rw (← c.self.view_is) (c.value.ensures ∙ ap (λ (m : MachineState). current_value mesh.image mesh.parameters m c.args.line.0) c.self.invariant.state_is)

pub returns-clause-flat : goal.returns-clause-flat
returns-clause-flat c = rw (← c.self.view_is) (c.value.ensures ∙ value_here c.self.invariant c.args.line.0 (rw (← c.self.view_is) at c.requires))
