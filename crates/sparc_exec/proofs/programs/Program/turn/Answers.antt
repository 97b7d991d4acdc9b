use Rattle.sparc_exec.proofs.programs.Program.turn.Goals as goal

pub returns-clause-missed : goal.returns-clause-missed
returns-clause-missed g c = rw (← c.self.view_is) (rw c.words.ensures at c.turn.ensures.missed)
