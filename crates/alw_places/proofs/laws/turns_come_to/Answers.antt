-- By the lemmas on runs that end where a turn traps.
use Rattle.alw_places.proofs.Runs.{halts_with, traps_at}
use Rattle.alw_places.proofs.laws.turns_come_to.Goals as goal

pub returns-clause-halted : goal.returns-clause-halted
returns-clause-halted c = halts_with

pub returns-clause-trapped : goal.returns-clause-trapped
returns-clause-trapped c = traps_at
