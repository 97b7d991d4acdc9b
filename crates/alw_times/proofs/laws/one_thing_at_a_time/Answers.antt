-- One thing at a time.
use Rattle.alw_times.proofs.Rising.{one_at_a_time}
use Rattle.alw_times.proofs.laws.one_thing_at_a_time.Goals as goal

pub returns : goal.returns
returns c = one_at_a_time
