-- What stands of clocks and links.
use Rattle.law_machine.proofs.MachineFacts.{always_small, always_fit}
use Rattle.law_machine.proofs.machine_laws.clocks_are_small.Goals as goal

pub returns-clause-clocks : goal.returns-clause-clocks
returns-clause-clocks c = always_small

pub returns-clause-heads : goal.returns-clause-heads
returns-clause-heads c = always_fit
