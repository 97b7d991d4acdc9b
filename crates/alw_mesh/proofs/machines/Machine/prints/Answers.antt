-- The prints are those of the flat machine.
use Rattle.std.proofs.Common.{ap, ◌∙◌}
use Rattle.law_machine.proofs.FlatStarts.{prints_are}
use Rattle.alw_tally.specs.Told.{Told}
use Rattle.alw_mesh.proofs.machines.Machine.prints.Goals as goal

pub returns-clause-flat : goal.returns-clause-flat
returns-clause-flat c =
    let mesh = c.self.inside.mesh in
    let run = c.self.invariant.run in
    rw (← c.self.view_is) (c.prints.ensures.prints ∙ (ap (λ (told : Told). told.prints) c.self.invariant.told ∙ prints_are mesh.image mesh.parameters run.parameters.some_pointer c.self.inside.journal run.legal))
