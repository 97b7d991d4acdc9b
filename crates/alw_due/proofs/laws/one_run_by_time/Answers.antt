use Rattle.alw_due.proofs.Timely.{one_timed}
use Rattle.alw_due.proofs.laws.one_run_by_time.Goals as goal

pub returns : goal.returns
returns c = one_timed
