-- By the lemmas on journals.
use Rattle.law_schedules.proofs.Journals.{journal_halts, journal_traps}
use Rattle.law_schedules.proofs.every_schedule.Goals as goal

pub returns-clause-halted : goal.returns-clause-halted
returns-clause-halted c = journal_halts

pub returns-clause-trapped : goal.returns-clause-trapped
returns-clause-trapped c = journal_traps
