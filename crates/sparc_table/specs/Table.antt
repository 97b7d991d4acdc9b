-- The instruction table: which word spells which instruction, row by row (SPARC V8 manual, appendix B and appendix F, opcodes).
use Rattle.std.specs.Prelude.{◌≡◌, ℕ, ◌-◌, ◌^◌, ◌<◌, Bool, false, cond, ◌||◌, ◌==◌, IsTrue, List, [], ◌∷◌, Option, Some, None, option_map}
use Rattle.sparc_table.specs.Fields.{bits_of, op_of, op2_of, op3_of, rd_of, rs1_of, i_of, unused_of, rs2_of, annul_of, cond_of}
use Rattle.sparc_table.specs.declared.instructions.Operand.{Operand}
use Rattle.sparc_table.specs.declared.instructions.Operand.TheVariants.{Reg, Imm}
use Rattle.sparc_table.specs.declared.instructions.Instr.{Instr}
use Rattle.sparc_table.specs.declared.instructions.Instr.TheVariants.{Call, Sethi, Branch, Arith, Shift, ReadY, WriteY, Jmpl, TrapOn, Memory}

-- ---- the values of op3 in a row of several instructions

-- a number is one of a list's
abbrev pub is_in : List ℕ → ℕ → Bool
is_in [] n = false
is_in (x ∷ xs) n = (n == x) || is_in xs n

-- ADD, AND, OR, XOR, SUB, ANDN, ORN, XNOR, ADDX, UMUL, SMUL, SUBX (B.11, B.13, B.15, B.18), then the forms that
-- set codes: ADDcc, ANDcc, ORcc, XORcc, SUBcc, ANDNcc, ORNcc, XNORcc, ADDXcc, SUBXcc
abbrev pub arithmetic : List ℕ
arithmetic =
    0x00 ∷ 0x01 ∷ 0x02 ∷ 0x03 ∷ 0x04 ∷ 0x05 ∷ 0x06 ∷ 0x07 ∷ 0x08 ∷ 0x0A ∷ 0x0B ∷ 0x0C ∷
    0x10 ∷ 0x11 ∷ 0x12 ∷ 0x13 ∷ 0x14 ∷ 0x15 ∷ 0x16 ∷ 0x17 ∷ 0x18 ∷ 0x1C ∷ []

-- SLL, SRL, SRA (B.12)
abbrev pub shifts : List ℕ
shifts = 0x25 ∷ 0x26 ∷ 0x27 ∷ []

-- LD, LDUB, LDUH, ST, STB, STH, LDSB, LDSH, LDSTUB, SWAP (B.1, B.4, B.7, B.8)
abbrev pub accesses : List ℕ
accesses = 0x00 ∷ 0x01 ∷ 0x02 ∷ 0x04 ∷ 0x05 ∷ 0x06 ∷ 0x09 ∷ 0x0A ∷ 0x0D ∷ 0x0F ∷ []

-- ---- the table as a relation

-- a word's operand: register rs2 where i is 0, and `width` bits from bit 0 on where i is 1. The bits from there to bit 12 are 0
abbrev pub IsOperand : ℕ → Operand → ℕ → Type 0
IsOperand width (Reg rs2) word = (i_of word ≡ 0) × (unused_of word ≡ 0) × (rs2_of word ≡ rs2)
IsOperand width (Imm bits) word = (i_of word ≡ 1) × (bits_of 0 13 word ≡ bits) × (bits < 2 ^ width)

-- a word of format 3 with these fields
abbrev pub IsFormat3 : ℕ → ℕ → ℕ → ℕ → ℕ → Operand → ℕ → Type 0
IsFormat3 op op3 rd rs1 width operand word = (op_of word ≡ op) × (op3_of word ≡ op3) × (rd_of word ≡ rd) × (rs1_of word ≡ rs1) × IsOperand width operand word

-- a word spells an instruction
abbrev pub IsSpelled : Instr → ℕ → Type 0
IsSpelled (Call disp) word = (op_of word ≡ 1) × (bits_of 0 30 word ≡ disp)
IsSpelled (Sethi rd imm) word = (op_of word ≡ 0) × (op2_of word ≡ 4) × (rd_of word ≡ rd) × (bits_of 0 22 word ≡ imm)
IsSpelled (Branch annul condition disp) word = (op_of word ≡ 0) × (op2_of word ≡ 2) × (annul_of word ≡ cond annul 1 0) × (cond_of word ≡ condition) × (bits_of 0 22 word ≡ disp)
IsSpelled (Arith op3 rd rs1 operand) word = IsTrue (is_in arithmetic op3) × IsFormat3 2 op3 rd rs1 13 operand word
IsSpelled (Shift op3 rd rs1 operand) word = IsTrue (is_in shifts op3) × IsFormat3 2 op3 rd rs1 5 operand word
IsSpelled (ReadY rd) word = IsFormat3 2 0x28 rd 0 13 (Reg 0) word
IsSpelled (WriteY rs1 operand) word = IsFormat3 2 0x30 0 rs1 13 operand word
IsSpelled (Jmpl rd rs1 operand) word = IsFormat3 2 0x38 rd rs1 13 operand word
IsSpelled (TrapOn condition rs1 operand) word = (condition < 16) × IsFormat3 2 0x3A condition rs1 7 operand word
IsSpelled (Memory op3 rd rs1 operand) word = IsTrue (is_in accesses op3) × IsFormat3 3 op3 rd rs1 13 operand word

-- a word spells no instruction
abbrev pub WordIsOutside : ℕ → Type 0
WordIsOutside word = (instr : Instr) → ¬ IsSpelled instr word

-- ---- the table as a function

-- the register that is a word's operand, where the bits beside it are 0
abbrev pub register_in : ℕ → Option Operand
register_in word = cond (unused_of word == 0) (Some (Reg (rs2_of word))) None

-- a word's operand: a register or simm13
abbrev pub operand_in : ℕ → Option Operand
operand_in word = cond (i_of word == 1) (Some (Imm (bits_of 0 13 word))) (register_in word)

-- the same where a number has `width` bits only, and the bits from there to bit 12 have to be 0
abbrev pub short_operand_in : ℕ → ℕ → Option Operand
short_operand_in width word = cond (i_of word == 1) (cond (bits_of width (13 - width) word == 0) (Some (Imm (bits_of 0 width word))) None) (register_in word)

-- the instruction where a test holds, and else none
abbrev pub only_if : Bool → Option Instr → Option Instr
only_if holds row = cond holds row None

-- SETHI (B.9) and Bicc (B.21), by op2
abbrev pub format_2 : ℕ → Option Instr
format_2 word =
    cond (op2_of word == 4) (Some (Sethi (rd_of word) (bits_of 0 22 word)))
    (only_if (op2_of word == 2) (Some (Branch (annul_of word == 1) (cond_of word) (bits_of 0 22 word))))

-- arithmetic and logic (B.11, B.13, B.15, B.18), shifts (B.12), RDY (B.28), WRY (B.29), JMPL (B.25) and Ticc (B.27), by op3
abbrev pub format_3 : ℕ → ℕ → Option Instr
format_3 op3 word =
    cond (is_in arithmetic op3) (option_map (Arith op3 (rd_of word) (rs1_of word)) (operand_in word))
    (cond (is_in shifts op3) (option_map (Shift op3 (rd_of word) (rs1_of word)) (short_operand_in 5 word))
    (cond (op3 == 0x28) (only_if (bits_of 0 19 word == 0) (Some (ReadY (rd_of word))))
    (cond (op3 == 0x30) (only_if (rd_of word == 0) (option_map (WriteY (rs1_of word)) (operand_in word)))
    (cond (op3 == 0x38) (option_map (Jmpl (rd_of word) (rs1_of word)) (operand_in word))
    (only_if (op3 == 0x3A) (only_if (annul_of word == 0) (option_map (TrapOn (cond_of word) (rs1_of word)) (short_operand_in 7 word))))))))

-- loads and stores (B.1, B.4), LDSTUB (B.7) and SWAP (B.8), by op3
abbrev pub memory : ℕ → ℕ → Option Instr
memory op3 word = only_if (is_in accesses op3) (option_map (Memory op3 (rd_of word) (rs1_of word)) (operand_in word))

-- the instruction that a word spells: None outside the table
unfoldable pub instr_of : ℕ → Option Instr
instr_of word =
    cond (op_of word == 0) (format_2 word)
    (cond (op_of word == 1) (Some (Call (bits_of 0 30 word)))
    (cond (op_of word == 2) (format_3 (op3_of word) word)
    (memory (op3_of word) word)))

-- ---- instructions within the table

-- an operand's bits are within its field
abbrev pub FitsOperand : ℕ → Operand → Type 0
FitsOperand width (Reg rs2) = rs2 < 32
FitsOperand width (Imm bits) = bits < 2 ^ width

-- each field is within its bits, and op3 within the row
abbrev pub Fits : Instr → Type 0
Fits (Call disp) = disp < 2 ^ 30
Fits (Sethi rd imm) = (rd < 32) × (imm < 2 ^ 22)
Fits (Branch annul condition disp) = (condition < 16) × (disp < 2 ^ 22)
Fits (Arith op3 rd rs1 operand) = IsTrue (is_in arithmetic op3) × (rd < 32) × (rs1 < 32) × FitsOperand 13 operand
Fits (Shift op3 rd rs1 operand) = IsTrue (is_in shifts op3) × (rd < 32) × (rs1 < 32) × FitsOperand 5 operand
Fits (ReadY rd) = rd < 32
Fits (WriteY rs1 operand) = (rs1 < 32) × FitsOperand 13 operand
Fits (Jmpl rd rs1 operand) = (rd < 32) × (rs1 < 32) × FitsOperand 13 operand
Fits (TrapOn condition rs1 operand) = (condition < 16) × (rs1 < 32) × FitsOperand 7 operand
Fits (Memory op3 rd rs1 operand) = IsTrue (is_in accesses op3) × (rd < 32) × (rs1 < 32) × FitsOperand 13 operand
