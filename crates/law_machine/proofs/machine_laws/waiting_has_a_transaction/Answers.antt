-- What stands of slots and of transactions.
use Rattle.law_machine.proofs.MachineFacts.{always_open, always_once}
use Rattle.law_machine.proofs.machine_laws.waiting_has_a_transaction.Goals as goal

pub returns-clause-open : goal.returns-clause-open
returns-clause-open c = always_open

pub returns-clause-once : goal.returns-clause-once
returns-clause-once c = always_once
