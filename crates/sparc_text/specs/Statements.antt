-- The statement of a word: how the assembler's language writes an instruction, in the plain form of the table (SPARC V8 manual, appendix A, suggested assembly syntax).
use Rattle.std.specs.Prelude.{ℕ, ◌+◌, ◌-◌, ◌*◌, ◌/◌, ◌%◌, ◌^◌, Bool, true, cond, ◌&&◌, ◌==◌, nat_lt, nat_le, Option, Some, None, List, [], ◌∷◌, ◌++◌, codes, slice_get, slice_index_or}
use Rattle.std.specs.Fmt.{decimal}
use Rattle.alw_text.specs.Numbers.{hex_word}
use Rattle.sparc_table.specs.Table.{instr_of, is_in}
use Rattle.sparc_table.specs.Control.{call_target, branch_target}
use Rattle.sparc_table.specs.declared.instructions.Operand.{Operand}
use Rattle.sparc_table.specs.declared.instructions.Operand.TheVariants.{Reg, Imm}
use Rattle.sparc_table.specs.declared.instructions.Instr.{Instr}
use Rattle.sparc_table.specs.declared.instructions.Instr.TheVariants.{Call, Sethi, Branch, Arith, Shift, ReadY, WriteY, Jmpl, TrapOn, Memory}

-- ---- names

-- arithmetic and logic by the low four bits of op3
abbrev pub plain_names : List (List ℕ)
plain_names =
    codes "add" ∷ codes "and" ∷ codes "or" ∷ codes "xor" ∷ codes "sub" ∷ codes "andn" ∷ codes "orn" ∷ codes "xnor" ∷
    codes "addx" ∷ [] ∷ codes "umul" ∷ codes "smul" ∷ codes "subx" ∷ []

-- a form that sets the codes has `cc` behind its name
abbrev pub arithmetic_name : ℕ → List ℕ
arithmetic_name op3 = slice_index_or plain_names (op3 % 16) [] ++ cond (nat_le 16 op3) (codes "cc") []

abbrev pub shift_name : ℕ → List ℕ
shift_name op3 = cond (op3 == 0x25) (codes "sll") (cond (op3 == 0x26) (codes "srl") (codes "sra"))

-- loads, stores, LDSTUB and SWAP by op3
abbrev pub access_names : List (List ℕ)
access_names =
    codes "ld" ∷ codes "ldub" ∷ codes "lduh" ∷ [] ∷ codes "st" ∷ codes "stb" ∷ codes "sth" ∷ [] ∷
    [] ∷ codes "ldsb" ∷ codes "ldsh" ∷ [] ∷ [] ∷ codes "ldstub" ∷ [] ∷ codes "swap" ∷ []

abbrev pub access_name : ℕ → List ℕ
access_name op3 = slice_index_or access_names op3 []

-- conditions 0 to 15, which stand behind `b` of a branch and `t` of a trap
abbrev pub condition_names : List (List ℕ)
condition_names =
    codes "n" ∷ codes "e" ∷ codes "le" ∷ codes "l" ∷ codes "leu" ∷ codes "cs" ∷ codes "neg" ∷ codes "vs" ∷
    codes "a" ∷ codes "ne" ∷ codes "g" ∷ codes "ge" ∷ codes "gu" ∷ codes "cc" ∷ codes "pos" ∷ codes "vc" ∷ []

abbrev pub condition_name : ℕ → List ℕ
condition_name condition = slice_index_or condition_names condition []

-- ---- operands

-- the letter of a register's bank: global, out, local and in
abbrev pub bank_letter : ℕ → ℕ
bank_letter r = cond (nat_lt r 8) 103 (cond (nat_lt r 16) 111 (cond (nat_lt r 24) 108 105))

-- `%g0` to `%i7`
unfoldable pub register_text : ℕ → List ℕ
register_text r = 37 ∷ bank_letter r ∷ (48 + r % 8) ∷ []

-- simm13 with its sign
abbrev pub signed_text : ℕ → List ℕ
signed_text bits = cond (nat_lt bits 4096) (decimal bits) (codes "-" ++ decimal (8192 - bits))

abbrev pub operand_text : Operand → List ℕ
operand_text (Reg rs2) = register_text rs2
operand_text (Imm bits) = signed_text bits

-- what is added to an address's register: nothing is written where it is register 0
abbrev pub offset_text : Operand → List ℕ
offset_text (Reg rs2) = cond (rs2 == 0) [] (codes "+" ++ register_text rs2)
offset_text (Imm bits) = cond (nat_lt bits 4096) (codes "+" ++ decimal bits) (codes "-" ++ decimal (8192 - bits))

abbrev pub address_text : ℕ → Operand → List ℕ
address_text rs1 operand = register_text rs1 ++ offset_text operand

-- the number of a trap stands alone where it is added to register 0
abbrev pub trap_text : ℕ → Operand → List ℕ
trap_text rs1 (Reg rs2) = address_text rs1 (Reg rs2)
trap_text rs1 (Imm bits) = cond (rs1 == 0) (decimal bits) (address_text rs1 (Imm bits))

unfoldable pub three_text : ℕ → Operand → ℕ → List ℕ
three_text rs1 operand rd = register_text rs1 ++ (codes "," ++ (operand_text operand ++ (codes "," ++ register_text rd)))

-- ---- instructions

unfoldable pub call_text : ℕ → ℕ → List ℕ
call_text here disp = codes "call " ++ hex_word (call_target here disp)

unfoldable pub high_text : ℕ → ℕ → List ℕ
high_text rd imm = codes "sethi %hi(" ++ (hex_word (imm * 1024) ++ (codes ")," ++ register_text rd))

-- `sethi 0,%g0` is `nop`
abbrev pub sethi_text : ℕ → ℕ → List ℕ
sethi_text rd imm = cond ((rd == 0) && (imm == 0)) (codes "nop") (high_text rd imm)

abbrev pub annul_text : Bool → List ℕ
annul_text annul = cond annul (codes ",a ") (codes " ")

unfoldable pub branch_text : ℕ → Bool → ℕ → ℕ → List ℕ
branch_text here annul condition disp = codes "b" ++ (condition_name condition ++ (annul_text annul ++ hex_word (branch_target here disp)))

abbrev pub is_store : ℕ → Bool
is_store op3 = is_in (0x04 ∷ 0x05 ∷ 0x06 ∷ []) op3

unfoldable pub bracketed : ℕ → Operand → List ℕ
bracketed rs1 operand = codes "[" ++ (address_text rs1 operand ++ codes "]")

abbrev pub access_text : ℕ → ℕ → ℕ → Operand → List ℕ
access_text op3 rd rs1 operand =
    cond (is_store op3) (register_text rd ++ (codes "," ++ bracketed rs1 operand)) (bracketed rs1 operand ++ (codes "," ++ register_text rd))

-- an instruction that stands at an address; targets are addresses
abbrev pub plain_text : ℕ → Instr → List ℕ
plain_text here (Call disp) = call_text here disp
plain_text here (Sethi rd imm) = sethi_text rd imm
plain_text here (Branch annul condition disp) = branch_text here annul condition disp
plain_text here (Arith op3 rd rs1 operand) = arithmetic_name op3 ++ (codes " " ++ three_text rs1 operand rd)
plain_text here (Shift op3 rd rs1 operand) = shift_name op3 ++ (codes " " ++ three_text rs1 operand rd)
plain_text here (ReadY rd) = codes "rd %y," ++ register_text rd
plain_text here (WriteY rs1 operand) = codes "wr " ++ (register_text rs1 ++ (codes "," ++ (operand_text operand ++ codes ",%y")))
plain_text here (Jmpl rd rs1 operand) = codes "jmpl " ++ (address_text rs1 operand ++ (codes "," ++ register_text rd))
plain_text here (TrapOn condition rs1 operand) = codes "t" ++ (condition_name condition ++ (codes " " ++ trap_text rs1 operand))
plain_text here (Memory op3 rd rs1 operand) = access_name op3 ++ (codes " " ++ access_text op3 rd rs1 operand)

-- ---- words

-- an instruction can be written at an address: a branch's target isn't below 0, nor beyond 2^32 - 1
abbrev pub is_writable : ℕ → Instr → Bool
is_writable here (Branch annul condition disp) = cond (nat_lt disp (2 ^ 21)) (nat_lt (here + 4 * disp) (2 ^ 32)) (nat_le (4 * (2 ^ 22 - disp)) here)
is_writable here _ = true

-- a word as data
abbrev pub data_text : ℕ → List ℕ
data_text word = codes ".word " ++ hex_word word

abbrev pub instr_text : ℕ → ℕ → Option Instr → List ℕ
instr_text here word None = data_text word
instr_text here word (Some instr) = cond (is_writable here instr) (plain_text here instr) (data_text word)

-- the statement of a word that stands at an address: its instruction's, where it has one that can be written
unfoldable pub statement_text : ℕ → ℕ → List ℕ
statement_text here word = instr_text here word (instr_of word)

-- the statement at an address of a program, or `-` where no word stands there
abbrev pub statement_of : Option ℕ → ℕ → List ℕ
statement_of (Some word) here = statement_text here word
statement_of None here = codes "-"

abbrev pub statement_at : List ℕ → ℕ → List ℕ
statement_at code here = statement_of (slice_get code (here / 4)) here
