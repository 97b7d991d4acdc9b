-- The table as a relation and the table as a function are one, row by row.
use Rattle.std.proofs.Common.{◌≡◌, ℕ, ◌==◌, Bool, true, false, cond, ◌↔◌, IfSome, MatchOption, List, [], ◌∷◌, Option, Some, None, option_map, refl, arith, sym, subst}
use Rattle.std.proofs.lemmas.Bool.{eqb-true, eqb-false}
use Rattle.sparc_table.specs.Fields.{bits_of, op_of, op2_of, op3_of, rd_of, rs1_of, i_of, unused_of, annul_of, cond_of}
use Rattle.sparc_table.specs.Table.{is_in, arithmetic, shifts, accesses, IsOperand, IsSpelled, WordIsOutside, FitsOperand, Fits, register_in, operand_in, short_operand_in, format_2, format_3, memory, instr_of}
use Rattle.sparc_table.specs.declared.instructions.Operand.{Operand}
use Rattle.sparc_table.specs.declared.instructions.Operand.TheVariants.{Reg, Imm}
use Rattle.sparc_table.specs.declared.instructions.Instr.{Instr}
use Rattle.sparc_table.specs.declared.instructions.Instr.TheVariants.{Call, Sethi, Branch, Arith, Shift, ReadY, WriteY, Jmpl, TrapOn, Memory}

-- ---- from the function to the relation

-- what holds on both sides of a test holds of the choice
split : {A : Type 0} (P : A → Type 0) (b : Bool) (x y : A) → (b ≡ true → P x) → (b ≡ false → P y) → P (cond b x y)
split P true x y h k = h refl
split P false x y h k = k refl

abbrev Spells : ℕ → Option Instr → Type 0
Spells word found = IfSome found (λ instr. IsSpelled instr word)

abbrev HasOperand : ℕ → ℕ → Option Operand → Type 0
HasOperand width word found = IfSome found (λ operand. IsOperand width operand word)

-- a row that takes its operand from the word
with_operand : (width word : ℕ) (make : Operand → Instr) (found : Option Operand) → HasOperand width word found → ((operand : Operand) → IsOperand width operand word → IsSpelled (make operand) word) → Spells word (option_map make found)
with_operand width word make (Some operand) h row = row operand h
with_operand width word make None h row = tt

flag : (word : ℕ) → annul_of word ≡ cond (annul_of word == 1) 1 0
flag word = split (λ v. annul_of word ≡ v) (annul_of word == 1) 1 0 (λ e. eqb-true _ _ e) (λ e. let n = eqb-false _ _ e in omega arith)

register_reads : (width word : ℕ) → i_of word ≡ 0 → HasOperand width word (register_in word)
register_reads width word i = split (HasOperand width word) (unused_of word == 0) _ _ (λ e. (i, eqb-true _ _ e, refl)) (λ e. tt)

not_one : (word : ℕ) → (i_of word == 1) ≡ false → i_of word ≡ 0
not_one word e = let n = eqb-false _ _ e in omega arith

operand_reads : (word : ℕ) → HasOperand 13 word (operand_in word)
operand_reads word = split (HasOperand 13 word) (i_of word == 1) _ _ (λ e. (eqb-true _ _ e, refl, omega arith)) (λ e. register_reads 13 word (not_one word e))

count_reads : (word : ℕ) → HasOperand 5 word (short_operand_in 5 word)
count_reads word =
    split (HasOperand 5 word) (i_of word == 1) _ _
    (λ e. split (HasOperand 5 word) (bits_of 5 8 word == 0) _ _ (λ z. let h = eqb-true _ _ z in (eqb-true _ _ e, omega arith, omega arith)) (λ z. tt))
    (λ e. register_reads 5 word (not_one word e))

number_reads : (word : ℕ) → HasOperand 7 word (short_operand_in 7 word)
number_reads word =
    split (HasOperand 7 word) (i_of word == 1) _ _
    (λ e. split (HasOperand 7 word) (bits_of 7 6 word == 0) _ _ (λ z. let h = eqb-true _ _ z in (eqb-true _ _ e, omega arith, omega arith)) (λ z. tt))
    (λ e. register_reads 7 word (not_one word e))

format_2_spells : (word : ℕ) → op_of word ≡ 0 → Spells word (format_2 word)
format_2_spells word op =
    split (Spells word) (op2_of word == 4) _ _ (λ e. (op, eqb-true _ _ e, refl, refl))
    (λ n. split (Spells word) (op2_of word == 2) _ _ (λ e. (op, eqb-true _ _ e, flag word, refl, refl)) (λ n. tt))

trap_spells : (word : ℕ) → op_of word ≡ 2 → op3_of word ≡ 0x3A → annul_of word ≡ 0 → Spells word (option_map (TrapOn (cond_of word) (rs1_of word)) (short_operand_in 7 word))
trap_spells word op op3 annul = with_operand 7 word _ _ (number_reads word) (λ operand h. (omega arith, (op, op3, omega arith, refl, h)))

read_y_spells : (word : ℕ) → op_of word ≡ 2 → op3_of word ≡ 0x28 → bits_of 0 19 word ≡ 0 → Spells word (Some (ReadY (rd_of word)))
read_y_spells word op op3 zeros = (op, op3, refl, omega arith, (omega arith, omega arith, omega arith))

format_3_spells : (word : ℕ) → op_of word ≡ 2 → Spells word (format_3 (op3_of word) word)
format_3_spells word op =
    let P = Spells word in
    split P (is_in arithmetic (op3_of word)) _ _ (λ e. with_operand 13 word _ _ (operand_reads word) (λ operand h. (e, (op, refl, refl, refl, h)))) (λ n.
    split P (is_in shifts (op3_of word)) _ _ (λ e. with_operand 5 word _ _ (count_reads word) (λ operand h. (e, (op, refl, refl, refl, h)))) (λ n.
    split P (op3_of word == 0x28) _ _ (λ e. split P (bits_of 0 19 word == 0) _ _ (λ z. read_y_spells word op (eqb-true _ _ e) (eqb-true _ _ z)) (λ z. tt)) (λ n.
    split P (op3_of word == 0x30) _ _ (λ e. split P (rd_of word == 0) _ _ (λ z. with_operand 13 word _ _ (operand_reads word) (λ operand h. (op, eqb-true _ _ e, eqb-true _ _ z, refl, h))) (λ z. tt)) (λ n.
    split P (op3_of word == 0x38) _ _ (λ e. with_operand 13 word _ _ (operand_reads word) (λ operand h. (op, eqb-true _ _ e, refl, refl, h))) (λ n.
    split P (op3_of word == 0x3A) _ _ (λ e. split P (annul_of word == 0) _ _ (λ z. trap_spells word op (eqb-true _ _ e) (eqb-true _ _ z)) (λ z. tt)) (λ n. tt))))))

memory_spells : (word : ℕ) → op_of word ≡ 3 → Spells word (memory (op3_of word) word)
memory_spells word op =
    split (Spells word) (is_in accesses (op3_of word)) _ _ (λ e. with_operand 13 word _ _ (operand_reads word) (λ operand h. (e, (op, refl, refl, refl, h)))) (λ n. tt)

-- the instruction that the function gives is spelled by its word
pub instr_of_spells : (word : ℕ) → Spells word (instr_of word)
unfolding instr_of
instr_of_spells word =
    let P = Spells word in
    split P (op_of word == 0) _ _ (λ e. format_2_spells word (eqb-true _ _ e)) (λ n0.
    split P (op_of word == 1) _ _ (λ e. (eqb-true _ _ e, refl)) (λ n1.
    split P (op_of word == 2) _ _ (λ e. format_3_spells word (eqb-true _ _ e)) (λ n2.
    memory_spells word (let a = eqb-false _ _ n0 in let b = eqb-false _ _ n1 in let d = eqb-false _ _ n2 in omega arith))))

-- ---- from the relation to the function

operand_is : (operand : Operand) (word : ℕ) → IsOperand 13 operand word → operand_in word ≡ Some operand
operand_is (Reg rs2) word h = rw (h.0, h.1, h.2) refl
operand_is (Imm bits) word h = rw (h.0, h.1) refl

count_is : (operand : Operand) (word : ℕ) → IsOperand 5 operand word → short_operand_in 5 word ≡ Some operand
count_is (Reg rs2) word h = rw (h.0, h.1, h.2) refl
count_is (Imm bits) word h = let z : bits_of 5 8 word ≡ 0 = omega arith in let e : bits_of 0 5 word ≡ bits = omega arith in rw (h.0, z, e) refl

number_is : (operand : Operand) (word : ℕ) → IsOperand 7 operand word → short_operand_in 7 word ≡ Some operand
number_is (Reg rs2) word h = rw (h.0, h.1, h.2) refl
number_is (Imm bits) word h = let z : bits_of 7 6 word ≡ 0 = omega arith in let e : bits_of 0 7 word ≡ bits = omega arith in rw (h.0, z, e) refl

abbrev Each : (ℕ → Type 0) → List ℕ → Type 0
Each P [] = Unit {0}
Each P (x ∷ xs) = P x × Each P xs

-- what each of a list has, a number that is in it has
member_has : (P : ℕ → Type 0) (xs : List ℕ) (n : ℕ) → is_in xs n ≡ true → Each P xs → P n
member_has P [] n e each = absurd (cc)
member_has P (x ∷ xs) n e each = go (n == x) refl (λ rest. member_has P xs n rest each.1)
  where
    go : (b : Bool) → (n == x) ≡ b → (is_in xs n ≡ true → P n) → P n
    go true t later = subst P (sym (eqb-true n x t)) each.0
    go false f later = later (rw f at e)

-- no op3 is of two rows
shifts_stand_alone : (op3 : ℕ) → is_in shifts op3 ≡ true → is_in arithmetic op3 ≡ false
shifts_stand_alone op3 e = member_has (λ n. is_in arithmetic n ≡ false) shifts op3 e (refl, (refl, (refl, tt)))

-- the function finds the instruction that a word spells
pub instr_of_is : (instr : Instr) (word : ℕ) → IsSpelled instr word → instr_of word ≡ Some instr
unfolding instr_of
instr_of_is (Call disp) word h = rw (h.0, h.1) refl
instr_of_is (Sethi rd imm) word h = rw (h.0, h.1, h.2, h.3) refl
instr_of_is (Branch true condition disp) word h = rw (h.0, h.1, h.2, h.3, h.4) refl
instr_of_is (Branch false condition disp) word h = rw (h.0, h.1, h.2, h.3, h.4) refl
instr_of_is (Arith op3 rd rs1 operand) word h = rw (h.1.0, h.1.1, h.0, h.1.2, h.1.3, operand_is operand word h.1.4) refl
instr_of_is (Shift op3 rd rs1 operand) word h = let a = shifts_stand_alone op3 h.0 in rw (h.1.0, h.1.1, a, h.0, h.1.2, h.1.3, count_is operand word h.1.4) refl
instr_of_is (ReadY rd) word h = let z : bits_of 0 19 word ≡ 0 = omega arith in rw (h.0, h.1, z, h.2) refl
instr_of_is (WriteY rs1 operand) word h = rw (h.0, h.1, h.2, h.3, operand_is operand word h.4) refl
instr_of_is (Jmpl rd rs1 operand) word h = rw (h.0, h.1, h.2, h.3, operand_is operand word h.4) refl
instr_of_is (TrapOn condition rs1 operand) word h =
    let z : annul_of word ≡ 0 = omega arith in let e : cond_of word ≡ condition = omega arith in
    rw (h.1.0, h.1.1, z, e, h.1.3, number_is operand word h.1.4) refl
instr_of_is (Memory op3 rd rs1 operand) word h = rw (h.1.0, h.1.1, h.0, h.1.2, h.1.3, operand_is operand word h.1.4) refl

-- a word outside the table spells no instruction
pub table : (word : ℕ) (found : Option Instr) → found ≡ instr_of word → MatchOption found (WordIsOutside word) (λ instr. IsSpelled instr word)
table word found e = go found e
  where
    go : (o : Option Instr) → o ≡ instr_of word → MatchOption o (WordIsOutside word) (λ instr. IsSpelled instr word)
    go (Some instr) e = subst (Spells word) (sym e) (instr_of_spells word)
    go None e = λ instr h. absurd (let f = instr_of_is instr word h in cc)

-- the relation is the function
pub one_table_is : (word : ℕ) (instr : Instr) → IsSpelled instr word ↔ (instr_of word ≡ Some instr)
one_table_is word instr = (instr_of_is instr word, λ e. subst (Spells word) e (instr_of_spells word))

-- a spelled instruction's fields are within their bits
fits_operand : (width : ℕ) (operand : Operand) (word : ℕ) → IsOperand width operand word → FitsOperand width operand
fits_operand width (Reg rs2) word h = omega arith
fits_operand width (Imm bits) word h = h.2

pub spelled_fits : (instr : Instr) (word : ℕ) → IsSpelled instr word → Fits instr
spelled_fits (Call disp) word h = omega arith
spelled_fits (Sethi rd imm) word h = (omega arith, omega arith)
spelled_fits (Branch annul condition disp) word h = (omega arith, omega arith)
spelled_fits (Arith op3 rd rs1 operand) word h = (h.0, omega arith, omega arith, fits_operand 13 operand word h.1.4)
spelled_fits (Shift op3 rd rs1 operand) word h = (h.0, omega arith, omega arith, fits_operand 5 operand word h.1.4)
spelled_fits (ReadY rd) word h = omega arith
spelled_fits (WriteY rs1 operand) word h = (omega arith, fits_operand 13 operand word h.4)
spelled_fits (Jmpl rd rs1 operand) word h = (omega arith, omega arith, fits_operand 13 operand word h.4)
spelled_fits (TrapOn condition rs1 operand) word h = (h.0, omega arith, fits_operand 7 operand word h.1.4)
spelled_fits (Memory op3 rd rs1 operand) word h = (h.0, omega arith, omega arith, fits_operand 13 operand word h.1.4)

-- what the table finds fits
pub table_fits : (word : ℕ) (found : Option Instr) → found ≡ instr_of word → IfSome found (λ instr. Fits instr)
table_fits word (Some instr) e = let P = Spells word in spelled_fits instr word (subst P (sym e) (instr_of_spells word))
table_fits word None e = tt
