-- Each context is Ready at its turn on the flat machine.
use Rattle.std.proofs.Common.{ℕ, List, sym, ap, subst, ◌∙◌}
use Rattle.alw_model.specs.Flat.{AreReady}
use Rattle.law_machine.proofs.FlatStarts.{turns_are_ready}
use Rattle.alw_tally.specs.Told.{Told}
use Rattle.alw_mesh.proofs.machines.Machine.turns.Goals as goal

pub returns-clause-flat : goal.returns-clause-flat
returns-clause-flat c =
    let mesh = c.self.inside.mesh in
    let run = c.self.invariant.run in
    let turns = c.turns.ensures.turns ∙ ap (λ (told : Told). told.turns) c.self.invariant.told in
    rw (← c.self.view_is) (subst (λ (turns : List ℕ). AreReady mesh.image turns) (sym turns) (turns_are_ready mesh.image mesh.parameters run.parameters.some_pointer c.self.inside.journal run.legal))
