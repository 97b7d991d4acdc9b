-- Statements whose registers, op3 and conditions are within their fields, as those of each line that is read.
use Rattle.std.specs.Prelude.{◌<◌, IsTrue, List, Option, Some, None}
use Rattle.std.specs.List.{AllByRecursion}
use Rattle.sparc_table.specs.Table.{is_in, arithmetic, shifts, accesses}
use Rattle.sparc_asm.specs.declared.statements.Source.{Source}
use Rattle.sparc_asm.specs.declared.statements.Source.TheVariants.{Register}
use Rattle.sparc_asm.specs.declared.statements.Address.{Address}
use Rattle.sparc_asm.specs.declared.statements.Statement.{Statement}
use Rattle.sparc_asm.specs.declared.statements.Statement.TheVariants.{Arith, Shift, ReadY, WriteY, Jmpl, Branch, Trap, Sethi, SethiHigh, Memory, Set}
use Rattle.sparc_asm.specs.declared.statements.Line.{Line}

abbrev pub SourceFits : Source → Type 0
SourceFits (Register r) = r < 32
SourceFits _ = Unit {0}

abbrev pub AddressFits : Address → Type 0
AddressFits a = (a.base < 32) × SourceFits a.offset

abbrev pub StatementFits : Statement → Type 0
StatementFits (Arith op3 rs1 operand rd) = IsTrue (is_in arithmetic op3) × (rs1 < 32) × SourceFits operand × (rd < 32)
StatementFits (Shift op3 rs1 operand rd) = IsTrue (is_in shifts op3) × (rs1 < 32) × SourceFits operand × (rd < 32)
StatementFits (ReadY rd) = rd < 32
StatementFits (WriteY rs1 operand) = (rs1 < 32) × SourceFits operand
StatementFits (Jmpl address rd) = AddressFits address × (rd < 32)
StatementFits (Branch annul condition target) = condition < 16
StatementFits (Trap condition address) = (condition < 16) × AddressFits address
StatementFits (Sethi value rd) = rd < 32
StatementFits (SethiHigh value rd) = rd < 32
StatementFits (Memory op3 address rd) = IsTrue (is_in accesses op3) × AddressFits address × (rd < 32)
StatementFits (Set value rd) = rd < 32
StatementFits _ = Unit {0}

abbrev pub FitsIn : Option Statement → Type 0
FitsIn None = Unit {0}
FitsIn (Some s) = StatementFits s

abbrev pub LineFits : Line → Type 0
LineFits line = FitsIn line.statement

-- all lines
abbrev pub EachFits : List Line → Type 0
EachFits lines = AllByRecursion LineFits lines
