-- The law, on a machine and after a journal.
use Rattle.alw_laws.proofs.Shown.{machine_shown, journal_shown}
use Rattle.alw_laws.proofs.laws.views_are_sound.Goals as goal

pub returns-clause-machine : goal.returns-clause-machine
returns-clause-machine c = machine_shown

pub returns-clause-journal : goal.returns-clause-journal
returns-clause-journal c = journal_shown
