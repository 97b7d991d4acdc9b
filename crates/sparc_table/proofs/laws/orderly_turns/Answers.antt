use Rattle.sparc_table.proofs.Effects.{orderly_turn, turn_exists, turn_stays}
use Rattle.sparc_table.proofs.laws.orderly_turns.Goals as goal

pub returns-clause-exists : goal.returns-clause-exists
returns-clause-exists c = turn_exists

pub returns-clause-reads : goal.returns-clause-reads
returns-clause-reads c = turn_stays

pub returns-clause-still : goal.returns-clause-still
returns-clause-still c = λ code regs lines line. (orderly_turn code regs lines line).still

pub returns-clause-found : goal.returns-clause-found
returns-clause-found c = λ code regs lines line. (orderly_turn code regs lines line).found
