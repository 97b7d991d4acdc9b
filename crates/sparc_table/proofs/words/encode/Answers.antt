use Rattle.std.proofs.Common.{rules}
use Rattle.sparc_table.proofs.Rows.{instr_of_is}
use Rattle.sparc_table.proofs.words.encode.Goals as goal

pub returns-in-Call-clause-row : goal.returns-in-Call-clause-row
returns-in-Call-clause-row c = instr_of_is _ _ (search rules)

pub returns-in-Sethi-clause-row : goal.returns-in-Sethi-clause-row
returns-in-Sethi-clause-row c = instr_of_is _ _ (search rules)

pub returns-in-Branch-clause-row : goal.returns-in-Branch-clause-row
returns-in-Branch-clause-row c = instr_of_is _ _ (search rules)

pub returns-in-Arith-clause-row : goal.returns-in-Arith-clause-row
returns-in-Arith-clause-row c = instr_of_is _ _ (search rules)

pub returns-in-Shift-clause-row : goal.returns-in-Shift-clause-row
returns-in-Shift-clause-row c = instr_of_is _ _ (search rules)

pub returns-in-ReadY-clause-row : goal.returns-in-ReadY-clause-row
returns-in-ReadY-clause-row c = instr_of_is _ _ (search rules)

pub returns-in-WriteY-clause-row : goal.returns-in-WriteY-clause-row
returns-in-WriteY-clause-row c = instr_of_is _ _ (search rules)

pub returns-in-Jmpl-clause-row : goal.returns-in-Jmpl-clause-row
returns-in-Jmpl-clause-row c = instr_of_is _ _ (search rules)

pub returns-in-TrapOn-clause-row : goal.returns-in-TrapOn-clause-row
returns-in-TrapOn-clause-row c = instr_of_is _ _ (search rules)

pub returns-in-Memory-clause-row : goal.returns-in-Memory-clause-row
returns-in-Memory-clause-row c = instr_of_is _ _ (search rules)
