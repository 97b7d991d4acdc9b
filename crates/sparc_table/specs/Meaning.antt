-- The meaning of an instruction: what it needs, and what it then does to the registers and the line (SPARC V8 manual, appendix B).
use Rattle.std.specs.Prelude.{ℕ, ◌+◌, ◌*◌, ◌%◌, ◌^◌, Bool, false, cond, not, ◌==◌, [], ◌∷◌, bit_xor, ⊤}
use Rattle.alw_num.specs.declared.addresses.Line.{Line}
use Rattle.sparc_table.specs.Registers.{register, with_register}
use Rattle.sparc_table.specs.Operands.{operand_of, address_of}
use Rattle.sparc_table.specs.Arithmetic.{arithmetic, shifted}
use Rattle.sparc_table.specs.Control.{holds, next, transfer, call_target, branch_target, branched}
use Rattle.sparc_table.specs.Access.{width_of, is_load, mode_of, needed, loaded, stored}
use Rattle.sparc_table.specs.Table.{is_in}
use Rattle.sparc_table.specs.declared.registers.Regs.{Regs}
use Rattle.sparc_table.specs.declared.instructions.Instr.{Instr}
use Rattle.sparc_table.specs.declared.instructions.Instr.TheVariants.{Call, Sethi, Branch, Arith, Shift, ReadY, WriteY, Jmpl, TrapOn, Memory}
use Rattle.sparc_table.specs.declared.outcomes.Need.{Need}
use Rattle.sparc_table.specs.declared.outcomes.Need.TheVariants.{Nothing}
use Rattle.sparc_table.specs.declared.outcomes.Outcome.{Outcome}
use Rattle.sparc_table.specs.declared.outcomes.Outcome.TheVariants.{Done, Miss, Out, Halt, Trap}

-- what an instruction needs, where shared data has this number of lines
unfoldable pub need : Instr → Regs → ℕ → Need
need (Memory op3 rd rs1 operand) regs lines = needed (address_of rs1 operand regs) (width_of op3) (mode_of op3) lines
need _ regs lines = Nothing

-- JMPL: rd gets the old PC and the target comes after the delay slot, unless the target isn't a multiple of 4
abbrev pub jumped : ℕ → ℕ → Regs → Regs × Outcome
jumped rd target regs = cond (target % 4 == 0) (transfer target (with_register regs rd regs.pc), Done) (regs, Trap 0x07)

-- Ticc: where its condition holds, number 0 halts, 1 prints the word in %o0, and any other is a trap
abbrev pub trap_on : Bool → ℕ → Regs → Regs × Outcome
trap_on taken number regs =
    cond taken (cond (number == 0) (regs, Halt) (cond (number == 1) (next regs, Out (register regs 8)) (regs, Trap (0x80 + number)))) (next regs, Done)

-- the line stays
abbrev pub beside : Line → Regs × Outcome → Regs × Line × Outcome
beside line after = (after.0, line, after.1)

-- the registers change, the line stays and the turn is done
abbrev pub done : Line → Regs → Regs × Line × Outcome
done line regs = (regs, line, Done)

-- an access: loads, LDSTUB and SWAP write rd, and all but loads write the line
abbrev pub accessed : ℕ → ℕ → ℕ → Regs → Line → Regs × Line × Outcome
accessed op3 rd address regs line =
    cond (is_load op3) (next (with_register regs rd (loaded op3 address line)), line, Done)
    (cond (is_in (0x0D ∷ 0x0F ∷ []) op3) (next (with_register regs rd (loaded op3 address line)), stored op3 address (register regs rd) line, Done)
    (next regs, stored op3 address (register regs rd) line, Done))

-- what an instruction does, given the value of the line that it needs: the new registers, the new line and the outcome
unfoldable pub effect : Instr → Regs → Line → Regs × Line × Outcome
effect (Call disp) regs line = done line (transfer (call_target regs.pc disp) (with_register regs 15 regs.pc))
effect (Sethi rd imm) regs line = done line (next (with_register regs rd (imm * 1024)))
effect (Branch annul condition disp) regs line = done line (branched annul condition (holds condition regs) (branch_target regs.pc disp) regs)
effect (Arith op3 rd rs1 operand) regs line = done line (next (arithmetic op3 rd (register regs rs1) (operand_of operand regs) regs))
effect (Shift op3 rd rs1 operand) regs line = done line (next (with_register regs rd (shifted op3 (register regs rs1) (operand_of operand regs))))
effect (ReadY rd) regs line = done line (next (with_register regs rd regs.y))
effect (WriteY rs1 operand) regs line = done line (next (record regs { y = bit_xor (register regs rs1) (operand_of operand regs) }))
effect (Jmpl rd rs1 operand) regs line = beside line (jumped rd (address_of rs1 operand regs) regs)
effect (TrapOn condition rs1 operand) regs line = beside line (trap_on (holds condition regs) (address_of rs1 operand regs % 2 ^ 7) regs)
effect (Memory op3 rd rs1 operand) regs line = accessed op3 rd (address_of rs1 operand regs) regs line

-- stores, LDSTUB and SWAP
abbrev pub writes : Instr → Bool
writes (Memory op3 rd rs1 operand) = not (is_load op3)
writes _ = false

-- the outcomes with which a turn changes nothing
abbrev pub OutcomeIsStill : Outcome → Type 0
OutcomeIsStill (Miss line mode) = ⊤
OutcomeIsStill Halt = ⊤
OutcomeIsStill (Trap tt) = ⊤
OutcomeIsStill _ = ⊥
