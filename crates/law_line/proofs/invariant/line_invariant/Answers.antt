-- The induction over a run, and what soundness gives.
use Rattle.law_line.proofs.Steps.{always_sound}
use Rattle.law_line.proofs.Always.{always_invariant}
use Rattle.law_line.proofs.invariant.line_invariant.Goals as goal

pub returns-clause-sound : goal.returns-clause-sound
returns-clause-sound c = always_sound

pub returns-clause-clauses : goal.returns-clause-clauses
returns-clause-clauses c = always_invariant
