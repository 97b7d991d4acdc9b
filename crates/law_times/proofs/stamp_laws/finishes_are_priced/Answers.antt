-- By the induction.
use Rattle.law_times.proofs.Prices.{finishes_are_priced}
use Rattle.law_times.proofs.stamp_laws.finishes_are_priced.Goals as goal

pub returns : goal.returns
returns c = finishes_are_priced
