-- No context runs or waits, so nothing is open.
use Rattle.law_machine.proofs.HaltFacts.{halted_instr, halted_open, halted_few}
use Rattle.law_machine.proofs.run_laws.halted_machines_rest.Goals as goal

pub returns-clause-instr : goal.returns-clause-instr
returns-clause-instr c = halted_instr

pub returns-clause-open : goal.returns-clause-open
returns-clause-open c = halted_open

pub returns-clause-few : goal.returns-clause-few
returns-clause-few c = halted_few
