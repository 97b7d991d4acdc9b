-- The ends of the turns so far are told.
use Rattle.std.proofs.Common.{drop}
use Rattle.alw_outcomes.specs.Explored.{trap_of}
use Rattle.alw_endings.specs.Ends.{trap_told, IsTrapEnd}
use Rattle.alw_endings.proofs.Told.{ToldSoFar}
use Rattle.alw_endings.proofs.telling.traps_of.Given as goal

abbrev pub invariant-loop-turn : goal.invariant-loop-turn
invariant-loop-turn l = ToldSoFar (IsTrapEnd l.image) trap_told trap_of l.turns (drop l.turn-index l.turns) l.traps
