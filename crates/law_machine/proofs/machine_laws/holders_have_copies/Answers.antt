-- What stands of slots.
use Rattle.law_machine.proofs.MachineFacts.{always_ready, always_copy}
use Rattle.law_machine.proofs.machine_laws.holders_have_copies.Goals as goal

pub returns-clause-ready : goal.returns-clause-ready
returns-clause-ready c = always_ready

pub returns-clause-copy : goal.returns-clause-copy
returns-clause-copy c = always_copy
