-- The statement of a code word is encoded as that word.
use Rattle.std.proofs.Common.{◌≡◌, ◌⊎◌, inl, inr, ℕ, ◌+◌, ◌-◌, ◌*◌, ◌/◌, ◌%◌, ◌^◌, ◌<◌, ◌≤◌, Bool, true, false, IsTrue, cond, ◌==◌, ◌&&◌, nat_lt, nat_le, List, Option, Some, None, Result, Ok, refl, ap, arith}
use Rattle.std.proofs.lemmas.Bool.{and_parts, eq-eqb, leb-true, eqb-true}
use Rattle.std.proofs.lemmas.Bool.Decides.{nat_tests}
use Rattle.sparc_table.specs.declared.instructions.Operand.{Operand}
use Rattle.sparc_table.specs.declared.instructions.Operand.TheVariants.{Reg, Imm}
use Rattle.sparc_table.specs.declared.instructions.Instr.{Instr}
use Rattle.sparc_table.specs.declared.instructions.Instr.TheVariants as instr
use Rattle.sparc_table.specs.Control.{call_target, branch_target}
use Rattle.sparc_table.specs.Table.{instr_of, Fits, FitsOperand, IsFormat3, IsSpelled}
use Rattle.sparc_table.proofs.Rows.{spelled_fits, one_table_is}
use Rattle.sparc_text.specs.Statements.{is_writable}
use Rattle.sparc_asm.specs.declared.values.Sum.{Sum}
use Rattle.sparc_asm.specs.declared.faults.Fault.{Fault}
use Rattle.sparc_asm.specs.declared.encoding.Coded.TheVariants.{One}
use Rattle.sparc_asm.specs.declared.statements.Signed.{Signed}
use Rattle.sparc_asm.specs.declared.statements.Source.TheVariants as source
use Rattle.sparc_asm.specs.declared.statements.Statement.{Statement}
use Rattle.sparc_asm.specs.declared.statements.Statement.TheVariants as statement
use Rattle.sparc_asm.specs.Values.{value_of, above, is_between, modulo, quarter}
use Rattle.sparc_asm.specs.Encoding.{◌>>=◌, operand_of, ahead, call_distance, branch_distance, coded}
use Rattle.sparc_asm.specs.Words.{format_3, instr_word}
use Rattle.sparc_assemble.specs.Assembly.{Names}
use Rattle.law_sources.specs.Parsed.{number, less, operand_read, instr_read, word_read, by_instr, statement_read}

-- ---- numbers

-- a value of numbers that are added and taken away
abbrev pub sum : ℕ → ℕ → Sum
sum plus minus = record { plus = plus; minus = minus }

pub number_is : (names : Names) (here n : ℕ) → value_of names here (number n) ≡ Some (sum n 0)
number_is names here n = let e : 0 + n ≡ n = omega arith in ap (λ (k : ℕ). Some (sum k 0)) e

pub less_is : (names : Names) (here n : ℕ) → value_of names here (less n) ≡ Some (sum 0 n)
less_is names here n = let e : 0 + n ≡ n = omega arith in ap (λ (k : ℕ). Some (sum 0 k)) e

pub sum_within : (least most plus minus : ℕ) → minus - plus ≤ least → plus - minus ≤ most → is_between least most (sum plus minus) ≡ true
sum_within least most plus minus low high = grind (arith, nat_tests)

-- ---- operands

operand_number : (names : Names) (here least most : ℕ) (e : List Signed) (v : Sum) (bits : ℕ) → value_of names here e ≡ Some v → is_between least most v ≡ true → modulo (2 ^ 13) v ≡ bits → operand_of names here least most (source.Number e) ≡ Ok (Imm bits)
operand_number names here least most e v bits is within same = rw (is, within, same) refl

-- a number of 13 bits, with its sign, between bounds
imm_back : (names : Names) (here least most bits : ℕ) → bits < 8192 → (bits < 4096 → bits ≤ most) → (4096 ≤ bits → 8192 - bits ≤ least) → operand_of names here least most (operand_read (Imm bits)) ≡ Ok (Imm bits)
imm_back names here least most bits fits high low = go (nat_lt bits 4096) refl
  where
    go : (b : Bool) → nat_lt bits 4096 ≡ b → operand_of names here least most (source.Number (cond b (number bits) (less (8192 - bits)))) ≡ Ok (Imm bits)
    go true e =
        let small : bits < 4096 = grind (arith, nat_tests) in
        operand_number names here least most (number bits) (sum bits 0) bits (number_is names here bits) (sum_within least most bits 0 (omega arith) (omega (arith, high small))) (omega arith)
    go false e =
        let large : 4096 ≤ bits = grind (arith, nat_tests) in
        operand_number names here least most (less (8192 - bits)) (sum 0 (8192 - bits)) bits (less_is names here (8192 - bits)) (sum_within least most 0 (8192 - bits) (omega (arith, low large)) (omega arith)) (omega arith)

plain_back : (names : Names) (here : ℕ) (operand : Operand) → FitsOperand 13 operand → operand_of names here 4096 4095 (operand_read operand) ≡ Ok operand
plain_back names here (Reg r) fits = refl
plain_back names here (Imm bits) fits = imm_back names here 4096 4095 bits (omega arith) (λ small. omega arith) (λ large. omega arith)

count_back : (names : Names) (here : ℕ) (operand : Operand) → FitsOperand 5 operand → operand_of names here 0 31 (operand_read operand) ≡ Ok operand
count_back names here (Reg r) fits = refl
count_back names here (Imm bits) fits = imm_back names here 0 31 bits (omega arith) (λ small. omega arith) (λ large. omega arith)

trap_back : (names : Names) (here : ℕ) (operand : Operand) → FitsOperand 7 operand → operand_of names here 0 127 (operand_read operand) ≡ Ok operand
trap_back names here (Reg r) fits = refl
trap_back names here (Imm bits) fits = imm_back names here 0 127 bits (omega arith) (λ small. omega arith) (λ large. omega arith)

-- what an instruction makes of its operand
with_operand : (make : Operand → Instr) (found : Result Operand Fault) (operand : Operand) → found ≡ Ok operand → (found >>= λ o. Ok (One (make o))) ≡ Ok (One (make operand))
with_operand make found operand is = ap (λ (r : Result Operand Fault). r >>= λ o. Ok (One (make o))) is

-- ---- targets

call_back : (names : Names) (here disp : ℕ) → disp < 2 ^ 30 → here % 4 ≡ 0 → here < 2 ^ 18 → call_distance names here (number (call_target here disp)) ≡ Ok disp
call_back names here disp fits even low = go (call_target here disp) refl
  where
    by_value : (e : List Signed) (v : Sum) → value_of names here e ≡ Some v → is_between 0 (2 ^ 32 - 1) v ≡ true → (above v % 4 == 0) ≡ true → modulo (2 ^ 30) (quarter (ahead v here)) ≡ disp → call_distance names here e ≡ Ok disp
    by_value e v is within aligned same = rw (is, within, aligned, same) refl

    go : (target : ℕ) → call_target here disp ≡ target → call_distance names here (number target) ≡ Ok disp
    go target is =
        let within : is_between 0 (2 ^ 32 - 1) (sum target 0) ≡ true = sum_within 0 (2 ^ 32 - 1) target 0 (omega arith) (omega arith) in
        let aligned : (above (sum target 0) % 4 == 0) ≡ true = eq-eqb _ _ (omega arith) in
        let same : modulo (2 ^ 30) (quarter (ahead (sum target 0) here)) ≡ disp = omega arith in
        by_value (number target) (sum target 0) (number_is names here target) within aligned same

-- how far a branch's target lies ahead, where it can be written
branch_back : (names : Names) (here disp : ℕ) → disp < 2 ^ 22 → here % 4 ≡ 0 → here < 2 ^ 18 → cond (nat_lt disp (2 ^ 21)) (nat_lt (here + 4 * disp) (2 ^ 32)) (nat_le (4 * (2 ^ 22 - disp)) here) ≡ true → branch_distance names here (number (branch_target here disp)) ≡ Ok disp
branch_back names here disp fits even low writable = go (branch_target here disp) refl (nat_lt disp (2 ^ 21)) refl
  where
    by_value : (e : List Signed) (v : Sum) → value_of names here e ≡ Some v → is_between 0 (2 ^ 32 - 1) v ≡ true → is_between (2 ^ 23) (2 ^ 23 - 4) (ahead v here) ≡ true → (above v % 4 == 0) ≡ true → modulo (2 ^ 22) (quarter (ahead v here)) ≡ disp → branch_distance names here e ≡ Ok disp
    by_value e v is within reached aligned same = rw (is, within, reached, aligned, same) refl

    by_target : (target : ℕ) → target < 2 ^ 32 → ((disp < 2 ^ 21) × (target ≡ here + 4 * disp)) ⊎ ((2 ^ 21 ≤ disp) × (target + 4 * (2 ^ 22 - disp) ≡ here)) → branch_distance names here (number target) ≡ Ok disp
    by_target target top (inl far) =
        by_value (number target) (sum target 0) (number_is names here target) (sum_within 0 (2 ^ 32 - 1) target 0 (omega arith) (omega arith))
        (sum_within (2 ^ 23) (2 ^ 23 - 4) (target - 0) here (omega arith) (omega arith)) (eq-eqb _ _ (omega arith)) (omega arith)
    by_target target top (inr far) =
        by_value (number target) (sum target 0) (number_is names here target) (sum_within 0 (2 ^ 32 - 1) target 0 (omega arith) (omega arith))
        (sum_within (2 ^ 23) (2 ^ 23 - 4) (target - 0) here (omega arith) (omega arith)) (eq-eqb _ _ (omega arith)) (omega arith)

    go : (target : ℕ) → branch_target here disp ≡ target → (b : Bool) → nat_lt disp (2 ^ 21) ≡ b → branch_distance names here (number target) ≡ Ok disp
    go target is true e =
        let small : disp < 2 ^ 21 = grind (arith, nat_tests) in
        let extended : (here + 4 * disp) % 2 ^ 32 ≡ target = rw e at is in
        by_target target (omega arith) (inl (small, omega arith))
    go target is false e =
        let large : 2 ^ 21 ≤ disp = grind (arith, nat_tests) in
        let extended : (here + 4 * (disp + (2 ^ 32 - 2 ^ 22))) % 2 ^ 32 ≡ target = rw e at is in
        let back : nat_le (4 * (2 ^ 22 - disp)) here ≡ true = rw e at writable in
        let near = leb-true _ _ back in
        by_target target (omega arith) (inr (large, omega arith))

-- ---- instructions

sethi_back : (names : Names) (here rd imm : ℕ) → imm < 2 ^ 22 → coded names here (instr_read here (instr.Sethi rd imm)) ≡ Ok (One (instr.Sethi rd imm))
unfolding coded
sethi_back names here rd imm fits = go ((rd == 0) && (imm == 0)) refl
  where
    high : (e : List Signed) (v : Sum) → value_of names here e ≡ Some v → is_between (2 ^ 31) (2 ^ 32 - 1) v ≡ true → modulo (2 ^ 32) v / 1024 ≡ imm → coded names here (statement.SethiHigh e rd) ≡ Ok (One (instr.Sethi rd imm))
    high e v is within same = rw (is, within, same) refl

    low : (e : List Signed) (v : Sum) → value_of names here e ≡ Some v → is_between 0 4194303 v ≡ true → rd ≡ 0 → above v ≡ imm → coded names here (statement.Sethi e 0) ≡ Ok (One (instr.Sethi rd imm))
    low e v is within none same = rw (is, within, none, same) refl

    go : (b : Bool) → ((rd == 0) && (imm == 0)) ≡ b → coded names here (cond b (statement.Sethi (number 0) 0) (statement.SethiHigh (number (imm * 1024)) rd)) ≡ Ok (One (instr.Sethi rd imm))
    go true e =
        let parts = and_parts _ _ e in
        let none : rd ≡ 0 = eqb-true _ _ parts.0 in
        let zero : imm ≡ 0 = eqb-true _ _ parts.1 in
        low (number 0) (sum 0 0) (number_is names here 0) (sum_within 0 4194303 0 0 (omega arith) (omega arith)) none (omega arith)
    go false e = high (number (imm * 1024)) (sum (imm * 1024) 0) (number_is names here (imm * 1024)) (sum_within (2 ^ 31) (2 ^ 32 - 1) (imm * 1024) 0 (omega arith) (omega arith)) (omega arith)

-- the statement of an instruction is encoded as that instruction
coded_back : (names : Names) (here : ℕ) (i : Instr) → Fits i → IsTrue (is_writable here i) → here % 4 ≡ 0 → here < 2 ^ 18 → coded names here (instr_read here i) ≡ Ok (One i)
unfolding coded
coded_back names here (instr.Call disp) fits writable even low = ap (λ (r : Result ℕ Fault). r >>= λ d. Ok (One (instr.Call d))) (call_back names here disp fits even low)
coded_back names here (instr.Sethi rd imm) fits writable even low = sethi_back names here rd imm fits.1
coded_back names here (instr.Branch annul condition disp) fits writable even low = ap (λ (r : Result ℕ Fault). r >>= λ d. Ok (One (instr.Branch annul condition d))) (branch_back names here disp fits.1 even low writable)
coded_back names here (instr.Arith op3 rd rs1 operand) fits writable even low = with_operand (instr.Arith op3 rd rs1) _ operand (plain_back names here operand fits.3)
coded_back names here (instr.Shift op3 rd rs1 operand) fits writable even low = with_operand (instr.Shift op3 rd rs1) _ operand (count_back names here operand fits.3)
coded_back names here (instr.ReadY rd) fits writable even low = refl
coded_back names here (instr.WriteY rs1 operand) fits writable even low = with_operand (instr.WriteY rs1) _ operand (plain_back names here operand fits.1)
coded_back names here (instr.Jmpl rd rs1 operand) fits writable even low = with_operand (instr.Jmpl rd rs1) _ operand (plain_back names here operand fits.2)
coded_back names here (instr.TrapOn condition rs1 operand) fits writable even low = with_operand (instr.TrapOn condition rs1) _ operand (trap_back names here operand fits.2)
coded_back names here (instr.Memory op3 rd rs1 operand) fits writable even low = with_operand (instr.Memory op3 rd rs1) _ operand (plain_back names here operand fits.3)

-- a word of format 3
format_3_back : (op op3 rd rs1 width word : ℕ) (operand : Operand) → word < 2 ^ 32 → IsFormat3 op op3 rd rs1 width operand word → format_3 op op3 rd rs1 operand ≡ word
format_3_back op op3 rd rs1 width word (Reg r) fits h = omega (arith, h.0, h.1, h.2, h.3, h.4.0, h.4.1, h.4.2)
format_3_back op op3 rd rs1 width word (Imm bits) fits h = omega (arith, h.0, h.1, h.2, h.3, h.4.0, h.4.1)

branch_word : (annul : Bool) (condition disp word : ℕ) → word < 2 ^ 32 → IsSpelled (instr.Branch annul condition disp) word → instr_word (instr.Branch annul condition disp) ≡ word
branch_word true condition disp word fits h = omega (arith, h.0, h.1, h.2, h.3, h.4)
branch_word false condition disp word fits h = omega (arith, h.0, h.1, h.2, h.3, h.4)

-- the word of an instruction is the one that spells it
word_back : (i : Instr) (word : ℕ) → word < 2 ^ 32 → IsSpelled i word → instr_word i ≡ word
word_back (instr.Call disp) word fits h = omega (arith, h.0, h.1)
word_back (instr.Sethi rd imm) word fits h = omega (arith, h.0, h.1, h.2, h.3)
word_back (instr.Branch annul condition disp) word fits h = branch_word annul condition disp word fits h
word_back (instr.Arith op3 rd rs1 operand) word fits h = format_3_back 2 op3 rd rs1 13 word operand fits h.1
word_back (instr.Shift op3 rd rs1 operand) word fits h = format_3_back 2 op3 rd rs1 5 word operand fits h.1
word_back (instr.ReadY rd) word fits h = format_3_back 2 0x28 rd 0 13 word (Reg 0) fits h
word_back (instr.WriteY rs1 operand) word fits h = format_3_back 2 0x30 0 rs1 13 word operand fits h
word_back (instr.Jmpl rd rs1 operand) word fits h = format_3_back 2 0x38 rd rs1 13 word operand fits h
word_back (instr.TrapOn condition rs1 operand) word fits h = format_3_back 2 0x3A condition rs1 7 word operand fits h.1
word_back (instr.Memory op3 rd rs1 operand) word fits h = format_3_back 3 op3 rd rs1 13 word operand fits h.1

-- ---- statements

-- the statement of one instruction
abbrev pub is_plain : Statement → Bool
is_plain (statement.Arith op3 rs1 o rd) = true
is_plain (statement.Shift op3 rs1 o rd) = true
is_plain (statement.ReadY rd) = true
is_plain (statement.WriteY rs1 o) = true
is_plain (statement.Jmpl address rd) = true
is_plain (statement.Call target) = true
is_plain (statement.Branch annul condition target) = true
is_plain (statement.Trap condition address) = true
is_plain (statement.Sethi value rd) = true
is_plain (statement.SethiHigh value rd) = true
is_plain (statement.Memory op3 address rd) = true
is_plain _ = false

-- a statement that is one instruction, which has a word
pub record IsEncoded (names : Names) (here word : ℕ) (s : Statement) : Type 0 where
  pub plain : is_plain s ≡ true
  pub instr : Instr
  pub coded : coded names here s ≡ Ok (One instr)
  pub word_is : instr_word instr ≡ word

sethi_plain : (b : Bool) (rd imm : ℕ) → is_plain (cond b (statement.Sethi (number 0) 0) (statement.SethiHigh (number (imm * 1024)) rd)) ≡ true
sethi_plain true rd imm = refl
sethi_plain false rd imm = refl

instr_plain : (here : ℕ) (i : Instr) → is_plain (instr_read here i) ≡ true
instr_plain here (instr.Call disp) = refl
instr_plain here (instr.Sethi rd imm) = sethi_plain ((rd == 0) && (imm == 0)) rd imm
instr_plain here (instr.Branch annul condition disp) = refl
instr_plain here (instr.Arith op3 rd rs1 operand) = refl
instr_plain here (instr.Shift op3 rd rs1 operand) = refl
instr_plain here (instr.ReadY rd) = refl
instr_plain here (instr.WriteY rs1 operand) = refl
instr_plain here (instr.Jmpl rd rs1 operand) = refl
instr_plain here (instr.TrapOn condition rs1 operand) = refl
instr_plain here (instr.Memory op3 rd rs1 operand) = refl

-- the statement of a code word is one instruction, or the word as data
pub statement_encoded : (names : Names) (here word : ℕ) → word < 2 ^ 32 → here % 4 ≡ 0 → here < 2 ^ 18 → IsEncoded names here word (statement_read here word) ⊎ (statement_read here word ≡ word_read word)
unfolding statement_read
statement_encoded names here word fits even low = go (instr_of word) refl
  where
    by_test : (i : Instr) (b : Bool) → is_writable here i ≡ b → Fits i → IsSpelled i word → IsEncoded names here word (cond b (instr_read here i) (word_read word)) ⊎ (cond b (instr_read here i) (word_read word) ≡ word_read word)
    by_test i true e small spelled = inl (record { plain = instr_plain here i; instr = i; coded = coded_back names here i small e even low; word_is = word_back i word fits spelled })
    by_test i false e small spelled = inr refl

    go : (o : Option Instr) → instr_of word ≡ o → IsEncoded names here word (by_instr here word o) ⊎ (by_instr here word o ≡ word_read word)
    go None e = inr refl
    go (Some i) e = let spelled = (one_table_is word i).1 e in by_test i (is_writable here i) refl (spelled_fits i word spelled) spelled
