-- No eviction comes once every context has halted.
use Rattle.alw_sched.proofs.Bounded.{seeded_bounded}
use Rattle.alw_sched.proofs.laws.seeded_runs_are_bounded.Goals as goal

pub returns : goal.returns
returns c = seeded_bounded
