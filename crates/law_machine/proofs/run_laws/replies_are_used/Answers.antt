-- Event by event, what comes is held, and what was held is used.
use Rattle.law_machine.proofs.RunFacts.{always_used, always_accessed}
use Rattle.law_machine.proofs.HaltFacts.{halted_used}
use Rattle.law_machine.proofs.run_laws.replies_are_used.Goals as goal

pub returns-clause-count : goal.returns-clause-count
returns-clause-count c = always_used

pub returns-clause-accessed : goal.returns-clause-accessed
returns-clause-accessed c = always_accessed

pub returns-clause-halted : goal.returns-clause-halted
returns-clause-halted c = halted_used
