-- What soundness of the line gives.
use Rattle.law_machine.proofs.LineFacts.{always_owed}
use Rattle.law_machine.proofs.line_laws.answers_are_owed.Goals as goal

pub returns : goal.returns
returns c = always_owed
