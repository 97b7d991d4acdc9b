-- The word of an instruction spells it.
use Rattle.std.proofs.Common.{◌≡◌, ◌||◌, ◌&&◌, ◌==◌, nat_lt, true, false, Bool, IsTrue, ℕ, ◌^◌, ◌<◌, ◌≤◌, List, [], ◌∷◌, refl, sym, arith}
use Rattle.std.proofs.lemmas.Bool.{true≢false, eqb-true, ltb-true}
use Rattle.sparc_table.specs.declared.instructions.Operand.{Operand}
use Rattle.sparc_table.specs.declared.instructions.Operand.TheVariants.{Reg, Imm}
use Rattle.sparc_table.specs.declared.instructions.Instr.{Instr}
use Rattle.sparc_table.specs.declared.instructions.Instr.TheVariants.{Call, Sethi, Branch, Arith, Shift, ReadY, WriteY, Jmpl, TrapOn, Memory}
use Rattle.sparc_table.specs.Table.{is_in, arithmetic, shifts, accesses, FitsOperand, Fits, IsFormat3, IsSpelled}
use Rattle.sparc_asm.specs.Words.{format_3, instr_word}

abbrev all_small : List ℕ → Bool
all_small [] = true
all_small (x ∷ xs) = nat_lt x 64 && all_small xs

-- the numbers of a row have 6 bits
small : (xs : List ℕ) (n : ℕ) → is_in xs n ≡ true → all_small xs ≡ true → n < 64
small [] n here all = absurd (true≢false (sym here))
small (x ∷ xs) n here all = go (n == x) refl (nat_lt x 64) refl here all (small xs n)
  where
    go : (a : Bool) → (n == x) ≡ a → (b : Bool) → nat_lt x 64 ≡ b → (a || is_in xs n) ≡ true → (b && all_small xs) ≡ true → (is_in xs n ≡ true → all_small xs ≡ true → n < 64) → n < 64
    go a e false f here all more = absurd (true≢false (sym all))
    go true e true f here all more = omega (arith, eqb-true n x e, ltb-true x 64 f)
    go false e true f here all more = more here all

formed : (op op3 rd rs1 width : ℕ) (operand : Operand) → op < 4 → op3 < 64 → rd < 32 → rs1 < 32 → FitsOperand 13 operand → FitsOperand width operand → IsFormat3 op op3 rd rs1 width operand (format_3 op op3 rd rs1 operand) × (format_3 op op3 rd rs1 operand < 2 ^ 32)
formed op op3 rd rs1 width (Reg r) a b c d e f = ((omega arith, omega arith, omega arith, omega arith, (omega arith, omega arith, omega arith)), omega arith)
formed op op3 rd rs1 width (Imm bits) a b c d e f = ((omega arith, omega arith, omega arith, omega arith, (omega arith, omega arith, f)), omega arith)

call_spelled : (disp : ℕ) → disp < 2 ^ 30 → IsSpelled (Call disp) (instr_word (Call disp)) × (instr_word (Call disp) < 2 ^ 32)
call_spelled disp l = ((omega arith, omega arith), omega arith)

sethi_spelled : (rd imm : ℕ) → rd < 32 → imm < 2 ^ 22 → IsSpelled (Sethi rd imm) (instr_word (Sethi rd imm)) × (instr_word (Sethi rd imm) < 2 ^ 32)
sethi_spelled rd imm l m = ((omega arith, omega arith, omega arith, omega arith), omega arith)

branch_spelled : (annul : Bool) (condition disp : ℕ) → condition < 16 → disp < 2 ^ 22 → IsSpelled (Branch annul condition disp) (instr_word (Branch annul condition disp)) × (instr_word (Branch annul condition disp) < 2 ^ 32)
branch_spelled true condition disp l m = ((omega arith, omega arith, omega arith, omega arith, omega arith), omega arith)
branch_spelled false condition disp l m = ((omega arith, omega arith, omega arith, omega arith, omega arith), omega arith)

-- a word of an instruction with an operand
with_op3 : (xs : List ℕ) (op op3 rd rs1 width : ℕ) (operand : Operand) → all_small xs ≡ true → op < 4 → IsTrue (is_in xs op3) → rd < 32 → rs1 < 32 → FitsOperand 13 operand → FitsOperand width operand → (IsTrue (is_in xs op3) × IsFormat3 op op3 rd rs1 width operand (format_3 op op3 rd rs1 operand)) × (format_3 op op3 rd rs1 operand < 2 ^ 32)
with_op3 xs op op3 rd rs1 width operand all a row c d e f = let w = formed op op3 rd rs1 width operand a (small xs op3 row all) c d e f in ((row, w.0), w.1)

wider : (width : ℕ) (operand : Operand) → 2 ^ width ≤ 2 ^ 13 → FitsOperand width operand → FitsOperand 13 operand
wider width (Reg r) le fits = fits
wider width (Imm bits) le fits = omega arith

pub spelled : (i : Instr) → Fits i → IsSpelled i (instr_word i) × (instr_word i < 2 ^ 32)
spelled (Call disp) fits = call_spelled disp fits
spelled (Sethi rd imm) fits = sethi_spelled rd imm fits.0 fits.1
spelled (Branch annul condition disp) fits = branch_spelled annul condition disp fits.0 fits.1
spelled (Arith op3 rd rs1 operand) fits = with_op3 arithmetic 2 op3 rd rs1 13 operand refl (omega arith) fits.0 fits.1 fits.2 fits.3 fits.3
spelled (Shift op3 rd rs1 operand) fits = with_op3 shifts 2 op3 rd rs1 5 operand refl (omega arith) fits.0 fits.1 fits.2 (wider 5 operand (omega arith) fits.3) fits.3
spelled (ReadY rd) fits = formed 2 0x28 rd 0 13 (Reg 0) (omega arith) (omega arith) fits (omega arith) (omega arith) (omega arith)
spelled (WriteY rs1 operand) fits = formed 2 0x30 0 rs1 13 operand (omega arith) (omega arith) (omega arith) fits.0 fits.1 fits.1
spelled (Jmpl rd rs1 operand) fits = formed 2 0x38 rd rs1 13 operand (omega arith) (omega arith) fits.0 fits.1 fits.2 fits.2
spelled (TrapOn condition rs1 operand) fits = let w = formed 2 0x3A condition rs1 7 operand (omega arith) (omega arith) (omega (arith, fits.0)) fits.1 (wider 7 operand (omega arith) fits.2) fits.2 in ((fits.0, w.0), w.1)
spelled (Memory op3 rd rs1 operand) fits = with_op3 accesses 3 op3 rd rs1 13 operand refl (omega arith) fits.0 fits.1 fits.2 fits.3 fits.3

-- the one word that spells an instruction is its word
pub word_is : (i : Instr) (word : ℕ) → Fits i → ((w : ℕ) → w < 2 ^ 32 → IsSpelled i w → w ≡ word) → word ≡ instr_word i
word_is i word fits only = let s = spelled i fits in sym (only (instr_word i) s.1 s.0)
