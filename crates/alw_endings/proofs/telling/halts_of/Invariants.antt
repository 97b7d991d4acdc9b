-- The ends of the places so far are told.
use Rattle.std.proofs.Common.{drop}
use Rattle.alw_outcomes.specs.Explored.{found_in}
use Rattle.alw_outcomes.specs.Endings.{halt_at}
use Rattle.alw_endings.specs.Ends.{halt_told, IsHaltEnd}
use Rattle.alw_endings.proofs.Told.{ToldSoFar}
use Rattle.alw_endings.proofs.telling.halts_of.Given as goal

abbrev pub invariant-loop-at : goal.invariant-loop-at
invariant-loop-at l = ToldSoFar (IsHaltEnd l.image) (halt_told l.image) (halt_at (found_in l.found)) l.ends (drop l.at-index l.ends) l.halts
