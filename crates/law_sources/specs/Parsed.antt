-- The lines that the source of an image is read as: no label stands on any, and each has a statement.
use Rattle.std.specs.Prelude.{ℕ, ◌+◌, ◌-◌, ◌*◌, ◌&&◌, ◌==◌, cond, nat_lt, true, false, Option, Some, None, List, [], ◌∷◌, ◌++◌, map}
use Rattle.std.specs.List.{flat_map}
use Rattle.alw_num.specs.declared.addresses.Line.{Line as Body}
use Rattle.alw_num.specs.declared.addresses.LineNo.{LineNo}
use Rattle.alw_num.specs.declared.addresses.NodeNo.{NodeNo}
use Rattle.alw_num.specs.declared.addresses.Width.TheVariants.{Word}
use Rattle.alw_image.specs.declared.parts.Parts.{Parts}
use Rattle.sparc_table.specs.Table.{instr_of}
use Rattle.sparc_table.specs.Control.{call_target, branch_target}
use Rattle.sparc_table.specs.declared.instructions.Operand.{Operand}
use Rattle.sparc_table.specs.declared.instructions.Operand.TheVariants.{Reg, Imm}
use Rattle.sparc_table.specs.declared.instructions.Instr.{Instr}
use Rattle.sparc_table.specs.declared.instructions.Instr.TheVariants as instr
use Rattle.sparc_asm.specs.Expressions.{signed, address_at}
use Rattle.sparc_asm.specs.declared.statements.Term.TheVariants as term
use Rattle.sparc_asm.specs.declared.statements.Signed.{Signed}
use Rattle.sparc_asm.specs.declared.statements.Source.{Source}
use Rattle.sparc_asm.specs.declared.statements.Source.TheVariants as source
use Rattle.sparc_asm.specs.declared.statements.Statement.{Statement}
use Rattle.sparc_asm.specs.declared.statements.Statement.TheVariants as statement
use Rattle.sparc_asm.specs.declared.statements.Line.{Line}
use Rattle.sparc_text.specs.Statements.{is_writable}

-- the expression that is one number, and that of a number that is taken away
abbrev pub number : ℕ → List Signed
number n = signed false (term.Number n) ∷ []

abbrev pub less : ℕ → List Signed
less n = signed true (term.Number n) ∷ []

-- an operand, and an address with it
abbrev pub operand_read : Operand → Source
operand_read (Reg rs2) = source.Register rs2
operand_read (Imm bits) = source.Number (cond (nat_lt bits 4096) (number bits) (less (8192 - bits)))

-- the statement of an instruction at an address
abbrev pub instr_read : ℕ → Instr → Statement
instr_read here (instr.Call disp) = statement.Call (number (call_target here disp))
instr_read here (instr.Sethi rd imm) = cond ((rd == 0) && (imm == 0)) (statement.Sethi (number 0) 0) (statement.SethiHigh (number (imm * 1024)) rd)
instr_read here (instr.Branch annul condition disp) = statement.Branch annul condition (number (branch_target here disp))
instr_read here (instr.Arith op3 rd rs1 operand) = statement.Arith op3 rs1 (operand_read operand) rd
instr_read here (instr.Shift op3 rd rs1 operand) = statement.Shift op3 rs1 (operand_read operand) rd
instr_read here (instr.ReadY rd) = statement.ReadY rd
instr_read here (instr.WriteY rs1 operand) = statement.WriteY rs1 (operand_read operand)
instr_read here (instr.Jmpl rd rs1 operand) = statement.Jmpl (address_at rs1 (operand_read operand)) rd
instr_read here (instr.TrapOn condition rs1 operand) = statement.Trap condition (address_at rs1 (operand_read operand))
instr_read here (instr.Memory op3 rd rs1 operand) = statement.Memory op3 (address_at rs1 (operand_read operand)) rd

-- a word as data
abbrev pub word_read : ℕ → Statement
word_read word = statement.Data Word (number word ∷ [])

abbrev pub by_instr : ℕ → ℕ → Option Instr → Statement
by_instr here word None = word_read word
by_instr here word (Some instr) = cond (is_writable here instr) (instr_read here instr) (word_read word)

-- the statement of a code word at an address
unfoldable pub statement_read : ℕ → ℕ → Statement
statement_read here word = by_instr here word (instr_of word)

-- a line with a statement alone
abbrev pub line_of : Statement → Line
line_of s = record { label = None; statement = Some s }

abbrev pub sizes_read : Parts → List Line
sizes_read p =
    line_of (statement.Mesh (number p.width) (number p.height)) ∷ line_of (statement.Contexts (number p.contexts)) ∷ line_of (statement.Lines (number p.per_node)) ∷ []

-- code words, the first of which stands at an address
abbrev pub code_read : ℕ → List ℕ → List Line
code_read address [] = []
code_read address (word ∷ rest) = line_of (statement_read address word) ∷ code_read (address + 4) rest

abbrev pub start_read : NodeNo × ℕ × ℕ → Line
start_read start = line_of (statement.Start (number start.0.0) (number start.1) (number start.2))

abbrev pub always_read : ℕ → Line
always_read line = line_of (statement.Always (number line))

-- a data line: its place and its four words
abbrev pub data_read : LineNo × Body → List Line
data_read entry =
    line_of (statement.Shared (number (16 * entry.0.0)))
    ∷ line_of (statement.Data Word (number entry.1.a ∷ number entry.1.b ∷ number entry.1.c ∷ number entry.1.d ∷ [])) ∷ []

-- all lines
unfoldable pub lines_read : Parts → List Line
lines_read p = sizes_read p ++ (code_read 0 p.code ++ (map start_read p.starts ++ (map always_read p.always ++ flat_map data_read p.bodies)))
