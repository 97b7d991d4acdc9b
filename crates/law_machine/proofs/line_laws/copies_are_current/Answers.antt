-- What soundness of the line gives.
use Rattle.law_machine.proofs.LineFacts.{always_current}
use Rattle.law_machine.proofs.line_laws.copies_are_current.Goals as goal

pub returns : goal.returns
returns c = always_current
