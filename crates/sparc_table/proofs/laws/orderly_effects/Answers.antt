use Rattle.sparc_table.proofs.Effects.{orderly, line_stays}
use Rattle.sparc_table.proofs.laws.orderly_effects.Goals as goal

pub returns-clause-still : goal.returns-clause-still
returns-clause-still c = λ instr regs line. (orderly instr regs line).still

pub returns-clause-found : goal.returns-clause-found
returns-clause-found c = λ instr regs line. (orderly instr regs line).found

pub returns-clause-line : goal.returns-clause-line
returns-clause-line c = line_stays
