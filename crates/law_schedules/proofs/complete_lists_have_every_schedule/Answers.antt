-- By the lemma on lists.
use Rattle.law_schedules.proofs.Journals.{lists_all}
use Rattle.law_schedules.proofs.complete_lists_have_every_schedule.Goals as goal

pub returns : goal.returns
returns c = lists_all
