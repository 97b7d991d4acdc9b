-- The instructions that a statement stands for, with all names known (SPARC V8 manual, appendix B).
use Rattle.std.specs.Prelude.{ℕ, ◌-◌, ◌/◌, ◌%◌, ◌^◌, ◌==◌, Bool, true, false, IsTrue, if◌then◌else◌, nat_le, List, Option, Some, None, Result, Ok, Err}
use Rattle.sparc_table.specs.declared.instructions.Operand.{Operand}
use Rattle.sparc_table.specs.declared.instructions.Operand.TheVariants.{Reg, Imm}
use Rattle.sparc_table.specs.declared.instructions.Instr.TheVariants as instr
use Rattle.sparc_asm.specs.declared.names.Value.{Value}
use Rattle.sparc_asm.specs.declared.values.Sum.{Sum}
use Rattle.sparc_asm.specs.declared.faults.Fault.{Fault}
use Rattle.sparc_asm.specs.declared.faults.Fault.TheVariants.{UnknownName, Range, Unaligned}
use Rattle.sparc_asm.specs.declared.statements.Signed.{Signed}
use Rattle.sparc_asm.specs.declared.statements.Source.{Source}
use Rattle.sparc_asm.specs.declared.statements.Source.TheVariants as source
use Rattle.sparc_asm.specs.declared.statements.Statement.{Statement}
use Rattle.sparc_asm.specs.declared.statements.Statement.TheVariants as statement
use Rattle.sparc_asm.specs.declared.encoding.Coded.{Coded}
use Rattle.sparc_asm.specs.declared.encoding.Coded.TheVariants.{Nothing, One, Two}
use Rattle.sparc_asm.specs.Values.{value_of, above, is_between, modulo, quarter}

infixl 10 ◌>>=◌
-- what the next step makes of what the last one found
abbrev pub ◌>>=◌ : {A B : Type 0} → Result A Fault → (A → Result B Fault) → Result B Fault
Err fault >>= next = Err fault
Ok x >>= next = next x

-- ---- numbers

-- a value whose names all stand for something
abbrev pub known : Option Sum → Result Sum Fault
known None = Err UnknownName
known (Some value) = Ok value

-- a value that lies from `-least` to `most`
abbrev pub between : ℕ → ℕ → Sum → Result Sum Fault
between least most value = if is_between least most value then Ok value else Err Range

-- the value of an expression that lies from `-least` to `most`
abbrev pub number_of : (List ℕ → Option Value) → ℕ → ℕ → ℕ → List Signed → Result Sum Fault
number_of names here least most expression = known (value_of names here expression) >>= between least most

-- the word of an argument of `%hi` or `%lo`
abbrev pub word_of : (List ℕ → Option Value) → ℕ → List Signed → Result ℕ Fault
word_of names here expression = number_of names here (2 ^ 31) (2 ^ 32 - 1) expression >>= λ value. Ok (modulo (2 ^ 32) value)

-- a number within a field
abbrev pub immediate : ℕ → ℕ → Result Operand Fault
immediate most bits = if nat_le bits most then Ok (Imm bits) else Err Range

-- the second operand, where a number lies from `-least` to `most`
abbrev pub operand_of : (List ℕ → Option Value) → ℕ → ℕ → ℕ → Source → Result Operand Fault
operand_of names here least most (source.Register r) = Ok (Reg r)
operand_of names here least most (source.Number expression) = number_of names here least most expression >>= λ value. Ok (Imm (modulo (2 ^ 13) value))
operand_of names here least most (source.Low expression) = word_of names here expression >>= λ word. immediate most (word % 1024)

-- ---- targets

-- what was found of a target that is a multiple of 4
abbrev pub aligned : Sum → ℕ → Result ℕ Fault
aligned target found = if above target % 4 == 0 then Ok found else Err Unaligned

-- a target within the addresses
abbrev pub target_of : (List ℕ → Option Value) → ℕ → List Signed → Result Sum Fault
target_of names here expression = number_of names here 0 (2 ^ 32 - 1) expression

-- how far a target lies ahead
abbrev pub ahead : Sum → ℕ → Sum
ahead target here = record { plus = above target; minus = here }

-- how far a call's target lies ahead, in words modulo 2^30
abbrev pub call_distance : (List ℕ → Option Value) → ℕ → List Signed → Result ℕ Fault
call_distance names here expression =
    target_of names here expression >>= λ target. aligned target (modulo (2 ^ 30) (quarter (ahead target here)))

-- a branch's target lies from 2^21 words behind to 2^21 - 1 words ahead
abbrev pub reached : Sum → Sum → Result ℕ Fault
reached target distance =
    if is_between (2 ^ 23) (2 ^ 23 - 4) distance then aligned target (modulo (2 ^ 22) (quarter distance)) else Err Range

-- how far a branch's target lies ahead, in words of 22 bits
abbrev pub branch_distance : (List ℕ → Option Value) → ℕ → List Signed → Result ℕ Fault
branch_distance names here expression = target_of names here expression >>= λ target. reached target (ahead target here)

-- ---- statements

-- the bounds of simm13, of a shift count and of a trap number, each with its operand
abbrev pub plain_operand : (List ℕ → Option Value) → ℕ → Source → Result Operand Fault
plain_operand names here o = operand_of names here 4096 4095 o

-- SETHI and OR of a word
abbrev pub set_word : ℕ → ℕ → Coded
set_word rd word = Two (instr.Sethi rd (word / 1024)) (instr.Arith 0x02 rd rd (Imm (word % 1024)))

-- the instructions of a statement at a place: a directive has none
unfoldable pub coded : (List ℕ → Option Value) → ℕ → Statement → Result Coded Fault
coded names here (statement.Arith op3 rs1 o rd) = plain_operand names here o >>= λ operand. Ok (One (instr.Arith op3 rd rs1 operand))
coded names here (statement.Shift op3 rs1 o rd) = operand_of names here 0 31 o >>= λ operand. Ok (One (instr.Shift op3 rd rs1 operand))
coded names here (statement.ReadY rd) = Ok (One (instr.ReadY rd))
coded names here (statement.WriteY rs1 o) = plain_operand names here o >>= λ operand. Ok (One (instr.WriteY rs1 operand))
coded names here (statement.Jmpl address rd) = plain_operand names here address.offset >>= λ operand. Ok (One (instr.Jmpl rd address.base operand))
coded names here (statement.Call target) = call_distance names here target >>= λ disp. Ok (One (instr.Call disp))
coded names here (statement.Branch annul condition target) = branch_distance names here target >>= λ disp. Ok (One (instr.Branch annul condition disp))
coded names here (statement.Trap condition address) = operand_of names here 0 127 address.offset >>= λ operand. Ok (One (instr.TrapOn condition address.base operand))
coded names here (statement.Sethi value rd) = number_of names here 0 4194303 value >>= λ imm. Ok (One (instr.Sethi rd (above imm)))
coded names here (statement.SethiHigh value rd) = word_of names here value >>= λ word. Ok (One (instr.Sethi rd (word / 1024)))
coded names here (statement.Memory op3 address rd) = plain_operand names here address.offset >>= λ operand. Ok (One (instr.Memory op3 rd address.base operand))
coded names here (statement.Set value rd) = word_of names here value >>= λ word. Ok (set_word rd word)
coded names here _ = Ok Nothing

-- a statement whose instruction is looked up by its operand alone, or a directive
abbrev pub has_operand : Statement → Bool
has_operand (statement.Call target) = false
has_operand (statement.Branch annul condition target) = false
has_operand (statement.Sethi value rd) = false
has_operand (statement.SethiHigh value rd) = false
has_operand (statement.Set value rd) = false
has_operand _ = true

abbrev pub HasOperand : Statement → Type 0
HasOperand s = IsTrue (has_operand s)
