-- The words of instructions (SPARC V8 manual, appendix B), and of a statement's.
use Rattle.std.specs.Prelude.{ℕ, ◌+◌, ◌*◌, ◌^◌, if◌then◌else◌, List, [], ◌∷◌, Result, Ok, Err}
use Rattle.sparc_table.specs.declared.instructions.Operand.{Operand}
use Rattle.sparc_table.specs.declared.instructions.Operand.TheVariants.{Reg, Imm}
use Rattle.sparc_table.specs.declared.instructions.Instr.{Instr}
use Rattle.sparc_table.specs.declared.instructions.Instr.TheVariants as instr
use Rattle.sparc_asm.specs.declared.encoding.Coded.{Coded}
use Rattle.sparc_asm.specs.declared.encoding.Coded.TheVariants.{Nothing, One, Two}
use Rattle.sparc_asm.specs.declared.faults.Fault.{Fault}

-- the bits of an operand
abbrev pub operand_bits : Operand → ℕ
operand_bits (Reg rs2) = rs2
operand_bits (Imm bits) = 2 ^ 13 + bits

-- a word of format 3
abbrev pub format_3 : ℕ → ℕ → ℕ → ℕ → Operand → ℕ
format_3 op op3 rd rs1 operand = op * 2 ^ 30 + rd * 2 ^ 25 + op3 * 2 ^ 19 + rs1 * 2 ^ 14 + operand_bits operand

-- the word of an instruction
abbrev pub instr_word : Instr → ℕ
instr_word (instr.Call disp) = 2 ^ 30 + disp
instr_word (instr.Sethi rd imm) = rd * 2 ^ 25 + 4 * 2 ^ 22 + imm
instr_word (instr.Branch annul condition disp) = (if annul then 2 ^ 29 else 0) + condition * 2 ^ 25 + 2 * 2 ^ 22 + disp
instr_word (instr.Arith op3 rd rs1 operand) = format_3 2 op3 rd rs1 operand
instr_word (instr.Shift op3 rd rs1 operand) = format_3 2 op3 rd rs1 operand
instr_word (instr.ReadY rd) = format_3 2 0x28 rd 0 (Reg 0)
instr_word (instr.WriteY rs1 operand) = format_3 2 0x30 0 rs1 operand
instr_word (instr.Jmpl rd rs1 operand) = format_3 2 0x38 rd rs1 operand
instr_word (instr.TrapOn condition rs1 operand) = format_3 2 0x3A condition rs1 operand
instr_word (instr.Memory op3 rd rs1 operand) = format_3 3 op3 rd rs1 operand

abbrev pub coded_words : Result Coded Fault → List ℕ
coded_words (Ok Nothing) = []
coded_words (Ok (One first)) = instr_word first ∷ []
coded_words (Ok (Two first second)) = instr_word first ∷ instr_word second ∷ []
coded_words (Err fault) = []
