-- What a log tells of an instruction has no LF.
use Rattle.std.proofs.Common.{◌≡◌, ℕ, ◌+◌, ◌%◌, ◌^◌, ◌==◌, Bool, true, false, Option, Some, None, List, [], ◌∷◌, codes, refl}
use Rattle.std.specs.Prelude.{Result, Ok, Err}
use Rattle.alw_num.specs.declared.addresses.Line.{Line}
use Rattle.alw_num.specs.declared.addresses.Width.{Width}
use Rattle.alw_num.specs.declared.states.Mode.{Mode}
use Rattle.alw_num.specs.declared.states.Mode.TheVariants.{Read, Write}
use Rattle.alw_num.specs.Lanes.{bytes_in, lane_of}
use Rattle.sparc_table.specs.Access.{width_of, is_load}
use Rattle.sparc_table.specs.Operands.{address_of}
use Rattle.sparc_table.specs.Registers.{register as register_value}
use Rattle.sparc_table.specs.Turns.{fetched}
use Rattle.sparc_table.specs.declared.registers.Regs.{Regs}
use Rattle.sparc_table.specs.declared.instructions.Instr.{Instr}
use Rattle.sparc_table.specs.declared.instructions.Instr.TheVariants.{Memory}
use Rattle.sparc_table.specs.declared.outcomes.Need.{Need}
use Rattle.sparc_table.specs.declared.outcomes.Need.TheVariants as needs
use Rattle.sparc_table.specs.declared.outcomes.Outcome.{Outcome}
use Rattle.sparc_table.specs.declared.outcomes.Outcome.TheVariants.{Done, Miss, Out, Halt, Trap}
use Rattle.sparc_text.specs.Statements.{is_store}
use Rattle.alw_image.specs.declared.parts.Parts.{Parts}
use Rattle.alw_image.specs.Parameters.{Parameters}
use Rattle.alw_model.specs.declared.steps.Did.{Did}
use Rattle.alw_model.specs.declared.steps.Did.TheVariants.{Turn, Missed}
use Rattle.alw_model.specs.Contexts.{slot_at, running}
use Rattle.alw_model.specs.NodeStates.{NodeState}
use Rattle.alw_report.specs.Names.{mode_text}
use Rattle.alw_effects.specs.Pieces.{stood_text, sets_text, flag_digit, flags_text, codes_text, y_text, moved_text, reads_text, writes_text, taken_text, prints_text, traps_text}
use Rattle.alw_effects.specs.Effects.{written_by, written_text, codes_differ, changed_text, access_text, moved_by, moved_in, goes_at_once, control_text, fetched_text, outcome_text}
use Rattle.alw_turns.specs.Pieces.{slot_text, ends_text}
use Rattle.alw_turns.specs.Turns.{bytes_needed, is_waited, opens_text, misses_text, missed_text, did_text, need_in, slot_did, running_did, instr_text}
use Rattle.law_logs.proofs.Lines.{is_unbroken, IsUnbroken, plain, beside, fronted, either, longer, number, word, byte_word}
use Rattle.law_logs.proofs.Statements.{register, statement}

-- where a context stands
pub stood : (code : List ℕ) (pc : ℕ) → IsUnbroken (stood_text code pc)
unfolding stood_text
stood code pc = fronted (codes " pc ") refl (beside (word pc) (fronted (codes " ") refl (statement code pc)))

-- a mode
pub mode_is : (mode : Mode) → IsUnbroken (mode_text mode)
mode_is Read = plain (codes "read") refl
mode_is Write = plain (codes "write") refl

-- ---- a turn that is done

sets : (r value : ℕ) → IsUnbroken (sets_text r value)
unfolding sets_text
sets r value = fronted (codes " sets ") refl (beside (register r) (fronted (codes " ") refl (word value)))

written : (r : Option ℕ) (regs : Regs) → IsUnbroken (written_text r regs)
written None regs = plain [] refl
written (Some r) regs = either (r == 0) (plain [] refl) (sets r (register_value regs r))

flag_is : (set : Bool) → (flag_digit set == 10) ≡ false
flag_is true = refl
flag_is false = refl

flags : (regs : Regs) → IsUnbroken (flags_text regs)
flags regs =
    let c : is_unbroken (flag_digit regs.c ∷ []) ≡ true = longer (flag_digit regs.c) [] (flag_is regs.c) refl in
    let v : is_unbroken (flag_digit regs.v ∷ flag_digit regs.c ∷ []) ≡ true = longer (flag_digit regs.v) (flag_digit regs.c ∷ []) (flag_is regs.v) c in
    let z : is_unbroken (flag_digit regs.z ∷ flag_digit regs.v ∷ flag_digit regs.c ∷ []) ≡ true =
    longer (flag_digit regs.z) (flag_digit regs.v ∷ flag_digit regs.c ∷ []) (flag_is regs.z) v in
    record { test = longer (flag_digit regs.n) (flag_digit regs.z ∷ flag_digit regs.v ∷ flag_digit regs.c ∷ []) (flag_is regs.n) z }

codes_are : (regs : Regs) → IsUnbroken (codes_text regs)
unfolding codes_text
codes_are regs = fronted (codes " codes ") refl (flags regs)

y_is : (value : ℕ) → IsUnbroken (y_text value)
unfolding y_text
y_is value = fronted (codes " y ") refl (word value)

changed : (before after : Regs) → IsUnbroken (changed_text before after)
changed before after =
    beside (either (codes_differ before after) (codes_are after) (plain [] refl)) (either (before.y == after.y) (plain [] refl) (y_is after.y))

moved : (address : ℕ) (width : Width) (value : ℕ) → IsUnbroken (moved_text address width value)
moved address width value = beside (word address) (fronted (codes " ") refl (beside (number (bytes_in width)) (fronted (codes " ") refl (word value))))

reads : (address : ℕ) (width : Width) (value : ℕ) → IsUnbroken (reads_text address width value)
unfolding reads_text
reads address width value = fronted (codes " reads ") refl (moved address width value)

writes : (address : ℕ) (width : Width) (value : ℕ) → IsUnbroken (writes_text address width value)
unfolding writes_text
writes address width value = fronted (codes " writes ") refl (moved address width value)

access : (op3 address : ℕ) (before after : Line) → IsUnbroken (access_text op3 address before after)
access op3 address before after =
    let lane = λ (line : Line). lane_of line (address % 16) (width_of op3) in
    beside (either (is_store op3) (plain [] refl) (reads address (width_of op3) (lane before)))
    (either (is_load op3) (plain [] refl) (writes address (width_of op3) (lane after)))

moves : (instr : Instr) (regs : Regs) (before after : Line) → IsUnbroken (moved_by instr regs before after)
moves (Memory op3 rd rs1 operand) regs before after = access op3 (address_of rs1 operand regs) before after
moves _ regs before after = plain [] refl

needed : (need : Need) (instr : Instr) (regs : Regs) (before after : Line) → IsUnbroken (moved_in need instr regs before after)
needed (needs.Copy line mode) instr regs before after = moves instr regs before after
needed _ instr regs before after = plain [] refl

taken : (target : ℕ) → IsUnbroken (taken_text target)
unfolding taken_text
taken target = fronted (codes " taken ") refl (word target)

control : (at_once : Bool) (before after : Regs) → IsUnbroken (control_text at_once before after)
control at_once before after =
    either (after.pc == before.npc) (either (after.npc == (before.npc + 4) % 2 ^ 32) (plain [] refl) (taken after.npc))
    (either at_once (taken after.pc) (plain (codes " annuls") refl))

done : (read : Result Instr ℕ) (need : Need) (before after : Regs) (line line' : Line) → IsUnbroken (fetched_text read need before after line line')
done (Ok instr) need before after line line' =
    beside (written (written_by instr) after)
    (beside (changed before after) (beside (needed need instr before line line') (control (goes_at_once instr) before after)))
done (Err tt) need before after line line' = plain [] refl

-- ---- a turn by its outcome

prints : (value : ℕ) → IsUnbroken (prints_text value)
unfolding prints_text
prints value = fronted (codes " prints ") refl (word value)

traps : (tt : ℕ) → IsUnbroken (traps_text tt)
unfolding traps_text
traps tt = fronted (codes " traps ") refl (byte_word tt)

outcome_is : (outcome : Outcome) {done : List ℕ} → IsUnbroken done → IsUnbroken (outcome_text outcome done)
outcome_is Done whole = whole
outcome_is (Out value) whole = prints value
outcome_is Halt whole = plain (codes " halts") refl
outcome_is (Trap tt) whole = traps tt
outcome_is (Miss line mode) whole = plain [] refl

-- ---- a slot

opens : (waits : Bool) → IsUnbroken (opens_text waits)
opens true = plain (codes " waits") refl
opens false = plain (codes " opens") refl

missed : (need : Need) (waits : Bool) → IsUnbroken (missed_text need waits)
unfolding misses_text
missed (needs.Copy line mode) waits =
    fronted (codes " misses ") refl (beside (number line.0) (fronted (codes " ") refl (beside (mode_is mode) (opens waits))))
missed _ waits = plain [] refl

did_is : (did : Did) {done missed : List ℕ} → IsUnbroken done → IsUnbroken missed → IsUnbroken (did_text did done missed)
did_is (Turn slot outcome) whole other = outcome_is outcome whole
did_is (Missed slot) whole other = other
did_is _ whole other = plain [] refl

slot_is : (code : List ℕ) (slot : ℕ) (regs : Regs) → IsUnbroken (slot_text code slot regs)
unfolding slot_text
slot_is code slot regs = fronted (codes " slot ") refl (beside (number slot) (stood code regs.pc))

ends : (hold : Option ℕ) → IsUnbroken (ends_text hold)
ends None = plain [] refl
ends (Some line) = fronted (codes " ends-hold ") refl (number line)

module _ (image : Parts) (parameters : Parameters) (before after : NodeState) (did : Did) where
  slot_whole : (slot : ℕ) → IsUnbroken (slot_did image parameters before after did slot)
  slot_whole slot =
      let regs = (slot_at before.slots slot).regs in
      let need = need_in image (slot_at before.slots slot) in
      let turn = done (fetched image.code regs.pc) need regs (slot_at after.slots slot).regs (bytes_needed parameters.sets before.cache need)
      (bytes_needed parameters.sets after.cache need) in
      beside (slot_is image.code slot regs)
      (beside (did_is did turn (missed need (is_waited need before.transactions))) (ends (slot_at before.slots slot).hold))

  ran : (slot : Option ℕ) → IsUnbroken (running_did image parameters before after did slot)
  ran None = plain [] refl
  ran (Some slot) = slot_whole slot

  -- what an instruction did
  pub instr_whole : IsUnbroken (instr_text image parameters before after did)
  instr_whole = ran (running before.slots before.current)
