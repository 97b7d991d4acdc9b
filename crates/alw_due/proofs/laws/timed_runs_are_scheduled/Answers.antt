use Rattle.alw_due.proofs.Timely.{timed_scheduled}
use Rattle.alw_due.proofs.laws.timed_runs_are_scheduled.Goals as goal

pub returns : goal.returns
returns c = timed_scheduled
