-- The induction over a journal.
use Rattle.law_machine.proofs.MachineFacts.{always_invariant}
use Rattle.law_machine.proofs.machine_laws.machine_is_sound.Goals as goal

pub returns : goal.returns
returns c = always_invariant
