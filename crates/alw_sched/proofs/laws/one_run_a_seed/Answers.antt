use Rattle.alw_sched.proofs.Seeded.{one_seeded}
use Rattle.alw_sched.proofs.laws.one_run_a_seed.Goals as goal

pub returns : goal.returns
returns c = one_seeded
