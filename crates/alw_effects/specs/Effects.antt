-- What a turn did, from what stood before it and after it.
use Rattle.std.specs.Prelude.{ℕ, ◌+◌, ◌%◌, ◌^◌, ◌==◌, ◌&&◌, ◌||◌, Bool, false, cond, Option, None, Some, Result, Ok, Err, List, [], ◌++◌, codes}
use Rattle.alw_num.specs.declared.addresses.Line.{Line}
use Rattle.alw_num.specs.Lanes.{lane_of}
use Rattle.sparc_table.specs.Access.{width_of, is_load}
use Rattle.sparc_table.specs.Operands.{address_of}
use Rattle.sparc_table.specs.Registers.{register, differ}
use Rattle.sparc_table.specs.Turns.{fetched}
use Rattle.sparc_table.specs.declared.registers.Regs.{Regs}
use Rattle.sparc_table.specs.declared.instructions.Instr.{Instr}
use Rattle.sparc_table.specs.declared.instructions.Instr.TheVariants.{Call, Sethi, Branch, Arith, Shift, ReadY, Jmpl, Memory}
use Rattle.sparc_table.specs.declared.outcomes.Need.{Need}
use Rattle.sparc_table.specs.declared.outcomes.Need.TheVariants as needs
use Rattle.sparc_table.specs.declared.outcomes.Outcome.{Outcome}
use Rattle.sparc_table.specs.declared.outcomes.Outcome.TheVariants.{Done, Miss, Out, Halt, Trap}
use Rattle.sparc_text.specs.Statements.{is_store}
use Rattle.alw_effects.specs.declared.before.SlotBefore.{SlotBefore}
use Rattle.alw_effects.specs.Pieces.{sets_text, codes_text, y_text, reads_text, writes_text, taken_text, prints_text, traps_text}

-- ---- a turn that is done

-- the register that an instruction writes
abbrev pub written_by : Instr → Option ℕ
written_by (Call disp) = Some 15
written_by (Sethi rd imm) = Some rd
written_by (Arith op3 rd rs1 operand) = Some rd
written_by (Shift op3 rd rs1 operand) = Some rd
written_by (ReadY rd) = Some rd
written_by (Jmpl rd rs1 operand) = Some rd
written_by (Memory op3 rd rs1 operand) = cond (is_store op3) None (Some rd)
written_by _ = None

-- the word in a register behind the turn: register 0 is never written
abbrev pub written_text : Option ℕ → Regs → List ℕ
written_text None regs = []
written_text (Some r) regs = cond (r == 0) [] (sets_text r (register regs r))

-- a condition code isn't what it was
abbrev pub codes_differ : Regs → Regs → Bool
codes_differ before after = differ before.n after.n || (differ before.z after.z || (differ before.v after.v || differ before.c after.c))

-- the condition codes and Y behind the turn, where they aren't those before it
abbrev pub changed_codes_text : Regs → Regs → List ℕ
changed_codes_text before after = cond (codes_differ before after) (codes_text after) []

abbrev pub changed_y_text : Regs → Regs → List ℕ
changed_y_text before after = cond (before.y == after.y) [] (y_text after.y)

abbrev pub changed_text : Regs → Regs → List ℕ
changed_text before after = changed_codes_text before after ++ changed_y_text before after

-- what an access read, and what it wrote, given the bytes of its line before and after the turn
abbrev pub access_text : ℕ → ℕ → Line → Line → List ℕ
access_text op3 address before after =
    cond (is_store op3) [] (reads_text address (width_of op3) (lane_of before (address % 16) (width_of op3)))
    ++ cond (is_load op3) [] (writes_text address (width_of op3) (lane_of after (address % 16) (width_of op3)))

abbrev pub moved_by : Instr → Regs → Line → Line → List ℕ
moved_by (Memory op3 rd rs1 operand) regs before after = access_text op3 (address_of rs1 operand regs) before after
moved_by _ regs before after = []

-- an instruction that is done moves bytes where it needs a copy of their line
abbrev pub moved_in : Need → Instr → Regs → Line → Line → List ℕ
moved_in (needs.Copy line mode) instr regs before after = moved_by instr regs before after
moved_in _ instr regs before after = []

-- `ba,a`, which goes to its target at once
abbrev pub goes_at_once : Instr → Bool
goes_at_once (Branch annul condition disp) = annul && (condition == 8)
goes_at_once _ = false

-- where control went elsewhere: the target behind the delay slot or at once, or the delay slot left out
abbrev pub control_text : Bool → Regs → Regs → List ℕ
control_text at_once before after =
    cond (after.pc == before.npc) (cond (after.npc == (before.npc + 4) % 2 ^ 32) [] (taken_text after.npc))
    (cond at_once (taken_text after.pc) (codes " annuls"))

-- an instruction that was done, with what it needed, and the registers and the line's bytes before and after it
abbrev pub done_text : Need → Instr → Regs → Regs → Line → Line → List ℕ
done_text need instr before after line line' =
    written_text (written_by instr) after
    ++ (changed_text before after ++ (moved_in need instr before line line' ++ control_text (goes_at_once instr) before after))

abbrev pub fetched_text : Result Instr ℕ → Need → Regs → Regs → Line → Line → List ℕ
fetched_text (Ok instr) need before after line line' = done_text need instr before after line line'
fetched_text (Err tt) need before after line line' = []

-- ---- a turn by its outcome

abbrev pub outcome_text : Outcome → List ℕ → List ℕ
outcome_text Done done = done
outcome_text (Out word) done = prints_text word
outcome_text Halt done = codes " halts"
outcome_text (Trap tt) done = traps_text tt
outcome_text (Miss line mode) done = []

-- the same of what was read before the turn, and the registers and the line's bytes after it
abbrev pub effect_text : List ℕ → SlotBefore → Outcome → Regs → Line → List ℕ
effect_text code before outcome regs body = outcome_text outcome (fetched_text (fetched code before.regs.pc) before.need before.regs regs before.body body)
