use Rattle.alw_sched.proofs.GoingOn.{goes_on}
use Rattle.alw_sched.proofs.laws.refused_runs_go_on.Goals as goal

pub returns : goal.returns
returns c = goes_on
