-- What an event does to the slots of its node.
use Rattle.law_machine.proofs.RunFacts.{always_ended, always_halted}
use Rattle.law_machine.proofs.run_laws.ended_contexts_stay.Goals as goal

pub returns-clause-status : goal.returns-clause-status
returns-clause-status c = always_ended

pub returns-clause-halted : goal.returns-clause-halted
returns-clause-halted c = always_halted
