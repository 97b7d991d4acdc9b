-- One entry more.
use Rattle.alw_times.proofs.Rising.{times_none, times_push}
use Rattle.alw_times.proofs.laws.times_grow.Goals as goal

pub returns-clause-none : goal.returns-clause-none
returns-clause-none c = times_none

pub returns-clause-more : goal.returns-clause-more
returns-clause-more c = times_push
