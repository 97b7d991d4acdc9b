-- A turn on a list of code words: the fetch at PC, and then the instruction there (SPARC V8 manual, chapter 7, table 7-1).
use Rattle.std.specs.Prelude.{ℕ, ◌/◌, List, Option, Some, None, Result, Ok, Err, slice_get}
use Rattle.alw_num.specs.declared.addresses.Line.{Line}
use Rattle.sparc_table.specs.Table.{instr_of}
use Rattle.sparc_table.specs.Meaning.{need, effect}
use Rattle.sparc_table.specs.declared.registers.Regs.{Regs}
use Rattle.sparc_table.specs.declared.instructions.Instr.{Instr}
use Rattle.sparc_table.specs.declared.outcomes.Need.{Need}
use Rattle.sparc_table.specs.declared.outcomes.Need.TheVariants as needs
use Rattle.sparc_table.specs.declared.outcomes.Outcome.{Outcome}
use Rattle.sparc_table.specs.declared.outcomes.Outcome.TheVariants.{Trap}

-- an instruction, or trap type 02 where the word spells none
abbrev pub or_illegal : Option Instr → Result Instr ℕ
or_illegal (Some instr) = Ok instr
or_illegal None = Err 0x02

-- the instruction of a word, or trap type 01 where there is no word
abbrev pub or_no_access : Option ℕ → Result Instr ℕ
or_no_access (Some word) = or_illegal (instr_of word)
or_no_access None = Err 0x01

-- the instruction at PC, or the type of the trap that fetching it gives. PC counts bytes, and the word at the multiple of 4 below it is taken
unfoldable pub fetched : List ℕ → ℕ → Result Instr ℕ
fetched code pc = or_no_access (slice_get code (pc / 4))

-- what a turn needs, given what was fetched
abbrev pub need_at : Result Instr ℕ → Regs → ℕ → Need
need_at (Ok instr) regs lines = need instr regs lines
need_at (Err tt) regs lines = needs.Trap tt

-- what a turn does, given what the instruction needs
abbrev pub run_at : Need → Instr → Regs → Line → Regs × Line × Outcome
run_at (needs.Trap tt) instr regs line = (regs, line, Trap tt)
run_at _ instr regs line = effect instr regs line

-- what one instruction does, where shared data has this number of lines
abbrev pub run_of : Instr → Regs → ℕ → Line → Regs × Line × Outcome
run_of instr regs lines line = run_at (need instr regs lines) instr regs line

-- what a turn does, given what was fetched
abbrev pub turn_at : Result Instr ℕ → Regs → ℕ → Line → Regs × Line × Outcome
turn_at (Ok instr) regs lines line = run_of instr regs lines line
turn_at (Err tt) regs lines line = (regs, line, Trap tt)

-- what the turn of these registers needs, where shared data has this number of lines
unfoldable pub need_of : List ℕ → Regs → ℕ → Need
need_of code regs lines = need_at (fetched code regs.pc) regs lines

-- the turn of these registers, given the value of the line that it needs: the new registers, the new line and the outcome
unfoldable pub turn_of : List ℕ → Regs → ℕ → Line → Regs × Line × Outcome
turn_of code regs lines line = turn_at (fetched code regs.pc) regs lines line
