use Rattle.alw_sched.proofs.Seeded.{seeded_scheduled}
use Rattle.alw_sched.proofs.laws.seeded_runs_are_scheduled.Goals as goal

pub returns : goal.returns
returns c = seeded_scheduled
