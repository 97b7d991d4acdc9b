-- What soundness of the line gives.
use Rattle.law_machine.proofs.LineFacts.{always_one_writer, always_no_reader}
use Rattle.law_machine.proofs.line_laws.writers_are_alone.Goals as goal

pub returns-clause-one : goal.returns-clause-one
returns-clause-one c = always_one_writer

pub returns-clause-no_reader : goal.returns-clause-no_reader
returns-clause-no_reader c = always_no_reader
