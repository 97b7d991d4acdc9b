-- By the price of each event.
use Rattle.law_deadlines.proofs.Deadlines.{finishes_have_deadlines}
use Rattle.law_deadlines.proofs.finishes_have_deadlines.Goals as goal

pub returns : goal.returns
returns c = finishes_have_deadlines
