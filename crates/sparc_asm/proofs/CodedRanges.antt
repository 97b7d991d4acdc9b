-- The instructions of a statement within its ranges are within the instruction table.
use Rattle.std.proofs.Common.{◌≡◌, true, false, Bool, ℕ, ◌-◌, ◌/◌, ◌%◌, ◌^◌, ◌<◌, ◌≤◌, ◌==◌, if◌then◌else◌, nat_le, List, Option, Some, None, Result, Ok, Err, refl, arith}
use Rattle.std.proofs.lemmas.Bool.Decides.{nat_tests}
use Rattle.sparc_table.specs.declared.instructions.Operand.TheVariants.{Imm}
use Rattle.sparc_table.specs.declared.instructions.Instr.TheVariants as instr
use Rattle.sparc_table.specs.Table.{FitsOperand, Fits}
use Rattle.sparc_asm.specs.declared.names.Value.{Value}
use Rattle.sparc_asm.specs.declared.values.Sum.{Sum}
use Rattle.sparc_asm.specs.declared.faults.Fault.{Fault}
use Rattle.sparc_asm.specs.declared.faults.Fault.TheVariants.{Range, Unaligned}
use Rattle.sparc_asm.specs.declared.statements.Signed.{Signed}
use Rattle.sparc_asm.specs.declared.statements.Source.{Source}
use Rattle.sparc_asm.specs.declared.statements.Source.TheVariants as source
use Rattle.sparc_asm.specs.declared.statements.Statement.{Statement}
use Rattle.sparc_asm.specs.declared.statements.Statement.TheVariants as statement
use Rattle.sparc_asm.specs.declared.encoding.Coded.{Coded}
use Rattle.sparc_asm.specs.declared.encoding.Coded.TheVariants.{Nothing, One, Two}
use Rattle.sparc_asm.specs.Values.{value_of, above, is_between, modulo, quarter}
use Rattle.sparc_asm.specs.Encoding.{◌>>=◌, known, between, number_of, word_of, immediate, operand_of, aligned, ahead, target_of, call_distance, reached, branch_distance, plain_operand, set_word, coded}
use Rattle.sparc_asm.specs.Ranges.{SourceFits, StatementFits}

-- what was found has a property
abbrev pub Holds : {A : Type 0} → (A → Type 0) → Result A Fault → Type 0
Holds P (Err fault) = Unit {0}
Holds P (Ok x) = P x

bound : {A B : Type 0} (P : A → Type 0) (Q : B → Type 0) (r : Result A Fault) (next : A → Result B Fault) → Holds P r → ((x : A) → P x → Holds Q (next x)) → Holds Q (r >>= next)
bound P Q (Err fault) next h more = tt
bound P Q (Ok x) next h more = more x h

chosen : {A : Type 0} (P : A → Type 0) (b : Bool) (x : A) (fault : Fault) → (b ≡ true → P x) → Holds P (if b then Ok x else Err fault)
chosen P true x fault h = h refl
chosen P false x fault h = tt

abbrev Names : Type 0
Names = List ℕ → Option Value

abbrev Between : ℕ → ℕ → Sum → Type 0
Between least most v = is_between least most v ≡ true

known_any : (v : Option Sum) → Holds (λ s. Unit {0}) (known v)
known_any None = tt
known_any (Some v) = tt

number_between : (names : Names) (here least most : ℕ) (e : List Signed) → Holds (Between least most) (number_of names here least most e)
number_between names here least most e = bound (λ s. Unit {0}) (Between least most) (known (value_of names here e)) (between least most) (known_any (value_of names here e)) (λ v u. chosen (Between least most) (is_between least most v) v Range (λ is. is))

abbrev Below : ℕ → ℕ → Type 0
Below most n = n < most

word_below : (names : Names) (here : ℕ) (e : List Signed) → Holds (Below (2 ^ 32)) (word_of names here e)
word_below names here e = bound (Between (2 ^ 31) (2 ^ 32 - 1)) (Below (2 ^ 32)) (number_of names here (2 ^ 31) (2 ^ 32 - 1) e) (λ value. Ok (modulo (2 ^ 32) value)) (number_between names here (2 ^ 31) (2 ^ 32 - 1) e) (λ v is. omega arith)

immediate_fits : (most width bits : ℕ) → most < 2 ^ width → Holds (FitsOperand width) (immediate most bits)
immediate_fits most width bits l = chosen (FitsOperand width) (nat_le bits most) (Imm bits) Range (λ is. grind (arith, nat_tests, is))

-- an operand of 13 bits
plain_fits : (names : Names) (here : ℕ) (o : Source) → SourceFits o → Holds (FitsOperand 13) (plain_operand names here o)
plain_fits names here (source.Register r) fits = fits
plain_fits names here (source.Number e) fits = bound (Between 4096 4095) (FitsOperand 13) (number_of names here 4096 4095 e) (λ value. Ok (Imm (modulo (2 ^ 13) value))) (number_between names here 4096 4095 e) (λ v is. omega arith)
plain_fits names here (source.Low e) fits = bound (Below (2 ^ 32)) (FitsOperand 13) (word_of names here e) (λ word. immediate 4095 (word % 1024)) (word_below names here e) (λ word l. immediate_fits 4095 13 (word % 1024) (omega arith))

short : (most : ℕ) (v : Sum) → most < 2 ^ 13 → is_between 0 most v ≡ true → modulo (2 ^ 13) v ≤ most
short most v l is = grind (arith, nat_tests, is)

-- an operand of fewer bits, which isn't negative
short_fits : (names : Names) (here most width : ℕ) (o : Source) → most < 2 ^ 13 → most < 2 ^ width → SourceFits o → Holds (FitsOperand width) (operand_of names here 0 most o)
short_fits names here most width (source.Register r) few small fits = fits
short_fits names here most width (source.Number e) few small fits = bound (Between 0 most) (FitsOperand width) (number_of names here 0 most e) (λ value. Ok (Imm (modulo (2 ^ 13) value))) (number_between names here 0 most e) (λ v is. omega (arith, short most v few is))
short_fits names here most width (source.Low e) few small fits = bound (Below (2 ^ 32)) (FitsOperand width) (word_of names here e) (λ word. immediate most (word % 1024)) (word_below names here e) (λ word l. immediate_fits most width (word % 1024) small)

aligned_below : (most found : ℕ) (target : Sum) → found < most → Holds (Below most) (aligned target found)
aligned_below most found target l = chosen (Below most) (above target % 4 == 0) found Unaligned (λ is. l)

modulo_below : (modulus : ℕ) (v : Sum) → 0 < modulus → modulo modulus v < modulus
modulo_below modulus v l = omega arith

call_fits : (names : Names) (here : ℕ) (e : List Signed) → Holds (Below (2 ^ 30)) (call_distance names here e)
call_fits names here e = bound (Between 0 (2 ^ 32 - 1)) (Below (2 ^ 30)) (target_of names here e) (λ target. aligned target (modulo (2 ^ 30) (quarter (ahead target here)))) (number_between names here 0 (2 ^ 32 - 1) e) (λ target is. aligned_below (2 ^ 30) (modulo (2 ^ 30) (quarter (ahead target here))) target (modulo_below (2 ^ 30) (quarter (ahead target here)) (omega arith)))

reached_fits : (target distance : Sum) → Holds (Below (2 ^ 22)) (reached target distance)
reached_fits target distance = go (is_between (2 ^ 23) (2 ^ 23 - 4) distance)
  where
    go : (b : Bool) → Holds (Below (2 ^ 22)) (if b then aligned target (modulo (2 ^ 22) (quarter distance)) else Err Range)
    go true = aligned_below (2 ^ 22) (modulo (2 ^ 22) (quarter distance)) target (modulo_below (2 ^ 22) (quarter distance) (omega arith))
    go false = tt

branch_fits : (names : Names) (here : ℕ) (e : List Signed) → Holds (Below (2 ^ 22)) (branch_distance names here e)
branch_fits names here e = bound (Between 0 (2 ^ 32 - 1)) (Below (2 ^ 22)) (target_of names here e) (λ target. reached target (ahead target here)) (number_between names here 0 (2 ^ 32 - 1) e) (λ target is. reached_fits target (ahead target here))

abbrev pub CodedFits : Coded → Type 0
CodedFits Nothing = Unit {0}
CodedFits (One first) = Fits first
CodedFits (Two first second) = Fits first × Fits second

high_fits : (word : ℕ) → word < 2 ^ 32 → word / 1024 < 2 ^ 22
high_fits word l = omega arith

pub coded_fits : (names : Names) (here : ℕ) (s : Statement) → StatementFits s → Holds CodedFits (coded names here s)
unfolding coded
coded_fits names here (statement.Arith op3 rs1 o rd) fits = bound (FitsOperand 13) CodedFits (plain_operand names here o) (λ operand. Ok (One (instr.Arith op3 rd rs1 operand))) (plain_fits names here o fits.2) (λ operand f. (fits.0, fits.3, fits.1, f))
coded_fits names here (statement.Shift op3 rs1 o rd) fits = bound (FitsOperand 5) CodedFits (operand_of names here 0 31 o) (λ operand. Ok (One (instr.Shift op3 rd rs1 operand))) (short_fits names here 31 5 o (omega arith) (omega arith) fits.2) (λ operand f. (fits.0, fits.3, fits.1, f))
coded_fits names here (statement.ReadY rd) fits = fits
coded_fits names here (statement.WriteY rs1 o) fits = bound (FitsOperand 13) CodedFits (plain_operand names here o) (λ operand. Ok (One (instr.WriteY rs1 operand))) (plain_fits names here o fits.1) (λ operand f. (fits.0, f))
coded_fits names here (statement.Jmpl address rd) fits = bound (FitsOperand 13) CodedFits (plain_operand names here address.offset) (λ operand. Ok (One (instr.Jmpl rd address.base operand))) (plain_fits names here address.offset fits.0.1) (λ operand f. (fits.1, fits.0.0, f))
coded_fits names here (statement.Call target) fits = bound (Below (2 ^ 30)) CodedFits (call_distance names here target) (λ disp. Ok (One (instr.Call disp))) (call_fits names here target) (λ disp f. f)
coded_fits names here (statement.Branch annul condition target) fits = bound (Below (2 ^ 22)) CodedFits (branch_distance names here target) (λ disp. Ok (One (instr.Branch annul condition disp))) (branch_fits names here target) (λ disp f. (fits, f))
coded_fits names here (statement.Trap condition address) fits = bound (FitsOperand 7) CodedFits (operand_of names here 0 127 address.offset) (λ operand. Ok (One (instr.TrapOn condition address.base operand))) (short_fits names here 127 7 address.offset (omega arith) (omega arith) fits.1.1) (λ operand f. (fits.0, fits.1.0, f))
coded_fits names here (statement.Sethi value rd) fits = bound (Between 0 4194303) CodedFits (number_of names here 0 4194303 value) (λ imm. Ok (One (instr.Sethi rd (above imm)))) (number_between names here 0 4194303 value) (λ v is. (fits, grind (arith, nat_tests, is)))
coded_fits names here (statement.SethiHigh value rd) fits = bound (Below (2 ^ 32)) CodedFits (word_of names here value) (λ word. Ok (One (instr.Sethi rd (word / 1024)))) (word_below names here value) (λ word l. (fits, high_fits word l))
coded_fits names here (statement.Memory op3 address rd) fits = bound (FitsOperand 13) CodedFits (plain_operand names here address.offset) (λ operand. Ok (One (instr.Memory op3 rd address.base operand))) (plain_fits names here address.offset fits.1.1) (λ operand f. (fits.0, fits.2, fits.1.0, f))
coded_fits names here (statement.Set value rd) fits = bound (Below (2 ^ 32)) CodedFits (word_of names here value) (λ word. Ok (set_word rd word)) (word_below names here value) (λ word l. ((fits, high_fits word l), (refl, fits, fits, omega arith)))
coded_fits names here (statement.Mesh width height) fits = tt
coded_fits names here (statement.Contexts count) fits = tt
coded_fits names here (statement.Lines count) fits = tt
coded_fits names here statement.Text fits = tt
coded_fits names here (statement.Shared offset) fits = tt
coded_fits names here (statement.Data width values) fits = tt
coded_fits names here (statement.Skip count) fits = tt
coded_fits names here (statement.Align unit) fits = tt
coded_fits names here (statement.Equ name value) fits = tt
coded_fits names here (statement.Start node slot address) fits = tt
coded_fits names here (statement.Always line) fits = tt
