-- By the induction.
use Rattle.law_times.proofs.Prices.{stamps_bound_unit_times}
use Rattle.law_times.proofs.stamp_laws.stamps_bound_unit_times.Goals as goal

pub returns : goal.returns
returns c = stamps_bound_unit_times
