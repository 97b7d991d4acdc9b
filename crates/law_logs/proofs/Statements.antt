-- The statement of a word, wherever it stands, has no LF.
use Rattle.std.proofs.Common.{◌≡◌, ℕ, ◌+◌, ◌-◌, ◌*◌, ◌/◌, ◌%◌, ◌==◌, ◌&&◌, Bool, true, false, Option, Some, None, List, [], ◌∷◌, nat_lt, nat_le, codes, refl, arith}
use Rattle.std.specs.Prelude.{slice_get}
use Rattle.std.proofs.lemmas.Bool.Decides.{nat_tests}
use Rattle.sparc_table.specs.Table.{instr_of}
use Rattle.sparc_table.specs.Control.{call_target, branch_target}
use Rattle.sparc_table.specs.declared.instructions.Operand.{Operand}
use Rattle.sparc_table.specs.declared.instructions.Operand.TheVariants.{Reg, Imm}
use Rattle.sparc_table.specs.declared.instructions.Instr.{Instr}
use Rattle.sparc_table.specs.declared.instructions.Instr.TheVariants.{Call, Sethi, Branch, Arith, Shift, ReadY, WriteY, Jmpl, TrapOn, Memory}
use Rattle.sparc_text.specs.Statements.{plain_names, arithmetic_name, shift_name, access_names, condition_names, condition_name, bank_letter, register_text, signed_text, operand_text, offset_text, address_text, trap_text, three_text, call_text, high_text, branch_text, is_store, bracketed, access_text, plain_text, is_writable, data_text, instr_text, statement_text, statement_of, statement_at}
use Rattle.law_logs.proofs.Lines.{is_unbroken, IsUnbroken, plain, beside, fronted, either, longer, unbroken_name, number, word}

-- ---- names and operands

bank : (r : ℕ) → (bank_letter r == 10) ≡ false
bank r = grind (arith, nat_tests)

figure : (r : ℕ) → (48 + r % 8 == 10) ≡ false
figure r = grind (arith, nat_tests)

-- a register
pub register : (r : ℕ) → IsUnbroken (register_text r)
unfolding register_text
register r =
    let last : is_unbroken ((48 + r % 8) ∷ []) ≡ true = longer (48 + r % 8) [] (figure r) refl in
    record { test = longer (bank_letter r) ((48 + r % 8) ∷ []) (bank r) last }

signed : (bits : ℕ) → IsUnbroken (signed_text bits)
signed bits = either (nat_lt bits 4096) (number bits) (fronted (codes "-") refl (number (8192 - bits)))

operand_is : (operand : Operand) → IsUnbroken (operand_text operand)
operand_is (Reg rs2) = register rs2
operand_is (Imm bits) = signed bits

offset : (operand : Operand) → IsUnbroken (offset_text operand)
offset (Reg rs2) = either (rs2 == 0) (plain [] refl) (fronted (codes "+") refl (register rs2))
offset (Imm bits) = either (nat_lt bits 4096) (fronted (codes "+") refl (number bits)) (fronted (codes "-") refl (number (8192 - bits)))

address : (rs1 : ℕ) (operand : Operand) → IsUnbroken (address_text rs1 operand)
address rs1 operand = beside (register rs1) (offset operand)

trap : (rs1 : ℕ) (operand : Operand) → IsUnbroken (trap_text rs1 operand)
trap rs1 (Reg rs2) = address rs1 (Reg rs2)
trap rs1 (Imm bits) = either (rs1 == 0) (number bits) (address rs1 (Imm bits))

three : (rs1 : ℕ) (operand : Operand) (rd : ℕ) → IsUnbroken (three_text rs1 operand rd)
unfolding three_text
three rs1 operand rd = beside (register rs1) (fronted (codes ",") refl (beside (operand_is operand) (fronted (codes ",") refl (register rd))))

condition_is : (condition : ℕ) → IsUnbroken (condition_name condition)
condition_is condition = unbroken_name condition_names refl condition

bracket : (rs1 : ℕ) (operand : Operand) → IsUnbroken (bracketed rs1 operand)
unfolding bracketed
bracket rs1 operand = fronted (codes "[") refl (beside (address rs1 operand) (plain (codes "]") refl))

access : (op3 rd rs1 : ℕ) (operand : Operand) → IsUnbroken (access_text op3 rd rs1 operand)
access op3 rd rs1 operand =
    either (is_store op3) (beside (register rd) (fronted (codes ",") refl (bracket rs1 operand)))
    (beside (bracket rs1 operand) (fronted (codes ",") refl (register rd)))

-- ---- instructions

call : (here disp : ℕ) → IsUnbroken (call_text here disp)
unfolding call_text
call here disp = fronted (codes "call ") refl (word (call_target here disp))

high : (rd imm : ℕ) → IsUnbroken (high_text rd imm)
unfolding high_text
high rd imm = fronted (codes "sethi %hi(") refl (beside (word (imm * 1024)) (fronted (codes "),") refl (register rd)))

branch : (here : ℕ) (annul : Bool) (condition disp : ℕ) → IsUnbroken (branch_text here annul condition disp)
unfolding branch_text
branch here annul condition disp =
    fronted (codes "b") refl (beside (condition_is condition)
    (beside (either annul (plain (codes ",a ") refl) (plain (codes " ") refl)) (word (branch_target here disp))))

arithmetic : (op3 : ℕ) → IsUnbroken (arithmetic_name op3)
arithmetic op3 = beside (unbroken_name plain_names refl (op3 % 16)) (either (nat_le 16 op3) (plain (codes "cc") refl) (plain [] refl))

shift : (op3 : ℕ) → IsUnbroken (shift_name op3)
shift op3 = either (op3 == 0x25) (plain (codes "sll") refl) (either (op3 == 0x26) (plain (codes "srl") refl) (plain (codes "sra") refl))

instruction : (here : ℕ) (instr : Instr) → IsUnbroken (plain_text here instr)
instruction here (Call disp) = call here disp
instruction here (Sethi rd imm) = either ((rd == 0) && (imm == 0)) (plain (codes "nop") refl) (high rd imm)
instruction here (Branch annul condition disp) = branch here annul condition disp
instruction here (Arith op3 rd rs1 operand) = beside (arithmetic op3) (fronted (codes " ") refl (three rs1 operand rd))
instruction here (Shift op3 rd rs1 operand) = beside (shift op3) (fronted (codes " ") refl (three rs1 operand rd))
instruction here (ReadY rd) = fronted (codes "rd %y,") refl (register rd)
instruction here (WriteY rs1 operand) =
    fronted (codes "wr ") refl (beside (register rs1) (fronted (codes ",") refl (beside (operand_is operand) (plain (codes ",%y") refl))))
instruction here (Jmpl rd rs1 operand) = fronted (codes "jmpl ") refl (beside (address rs1 operand) (fronted (codes ",") refl (register rd)))
instruction here (TrapOn condition rs1 operand) =
    fronted (codes "t") refl (beside (condition_is condition) (fronted (codes " ") refl (trap rs1 operand)))
instruction here (Memory op3 rd rs1 operand) = beside (unbroken_name access_names refl op3) (fronted (codes " ") refl (access op3 rd rs1 operand))

-- ---- words

data_is : (value : ℕ) → IsUnbroken (data_text value)
data_is value = fronted (codes ".word ") refl (word value)

instr : (here value : ℕ) (read : Option Instr) → IsUnbroken (instr_text here value read)
instr here value None = data_is value
instr here value (Some read) = either (is_writable here read) (instruction here read) (data_is value)

stands : (here : ℕ) (read : Option ℕ) → IsUnbroken (statement_of read here)
unfolding statement_text
stands here (Some value) = instr here value (instr_of value)
stands here None = plain (codes "-") refl

-- the statement at an address
pub statement : (code : List ℕ) (here : ℕ) → IsUnbroken (statement_at code here)
statement code here = stands here (slice_get code (here / 4))
