-- Starts rise.
use Rattle.alw_times.proofs.Rising.{starts_rise}
use Rattle.alw_times.proofs.laws.starts_rise.Goals as goal

pub returns : goal.returns
returns c = starts_rise
