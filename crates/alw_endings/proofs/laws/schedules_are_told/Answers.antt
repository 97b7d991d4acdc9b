-- By the lemma on journals.
use Rattle.alw_endings.proofs.Schedules.{every_run}
use Rattle.alw_endings.proofs.laws.schedules_are_told.Goals as goal

pub returns : goal.returns
returns c = every_run
