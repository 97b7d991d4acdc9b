use Rattle.alw_due.proofs.Timely.{none_earlier}
use Rattle.alw_due.proofs.laws.nothing_due_starts_earlier.Goals as goal

pub returns : goal.returns
returns c = none_earlier
