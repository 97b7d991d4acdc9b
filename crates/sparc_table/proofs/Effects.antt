-- What holds of the effect of every instruction: what Halt and Trap leave, that no effect misses, and what changes a line.
use Rattle.std.proofs.Common.{◌≡◌, ◌≢◌, ℕ, ◌-◌, ◌/◌, ◌%◌, ◌^◌, ◌<◌, ◌==◌, ◌&&◌, Bool, true, false, cond, not, List, [], ◌∷◌, Result, Ok, Err, refl, ap, arith}
use Rattle.std.proofs.lemmas.Bool.{ltb-true}
use Rattle.alw_num.specs.Lanes.{bytes_in}
use Rattle.alw_num.specs.Limits.{shared_base}
use Rattle.alw_num.specs.declared.addresses.Line.{Line}
use Rattle.alw_num.specs.declared.addresses.LineNo.{LineNo}
use Rattle.alw_num.specs.declared.states.Mode.{Mode}
use Rattle.alw_num.specs.declared.states.Mode.TheVariants.{Read, Write}
use Rattle.sparc_table.specs.declared.outcomes.Need.{Need}
use Rattle.sparc_table.specs.declared.outcomes.Need.TheVariants as needs
use Rattle.sparc_table.specs.Turns.{fetched, run_at, run_of, need_at, need_of, turn_at, turn_of}
use Rattle.sparc_table.specs.Operands.{address_of}
use Rattle.sparc_table.specs.Control.{holds}
use Rattle.sparc_table.specs.Access.{is_load, is_shared, mode_of, width_of}
use Rattle.sparc_table.specs.Table.{is_in}
use Rattle.sparc_table.specs.Meaning.{need, effect, writes, OutcomeIsStill, beside}
use Rattle.sparc_table.specs.declared.registers.Regs.{Regs}
use Rattle.sparc_table.specs.declared.instructions.Instr.{Instr}
use Rattle.sparc_table.specs.declared.instructions.Instr.TheVariants.{Call, Sethi, Branch, Arith, Shift, ReadY, WriteY, Jmpl, TrapOn, Memory}
use Rattle.sparc_table.specs.declared.outcomes.Outcome.{Outcome}
use Rattle.sparc_table.specs.declared.outcomes.Outcome.TheVariants.{Done, Miss}

-- Halt and Trap leave registers and line as they are, and the outcome is no Miss
pub record IsOrderly (regs : Regs) (line : Line) (after : Regs × Line × Outcome) : Type 0 where
  pub still : OutcomeIsStill after.2 → (after.0 ≡ regs) × (after.1 ≡ line)
  pub found : (l : LineNo) → (m : Mode) → after.2 ≢ Miss l m

pub choice : {A : Type 0} (P : A → Type 0) (b : Bool) (x y : A) → P x → P y → P (cond b x y)
choice P true x y h k = h
choice P false x y h k = k

goes_on : (regs : Regs) (line : Line) (new : Regs) (left : Line) → IsOrderly regs line (new, left, Done)
goes_on regs line new left = record { still = λ h. absurd h; found = λ l m e. cc }

pub stops : (regs : Regs) (line : Line) (outcome : Outcome) → ((l : LineNo) → (m : Mode) → outcome ≢ Miss l m) → IsOrderly regs line (regs, line, outcome)
stops regs line outcome found = record { still = λ h. (refl, refl); found = found }

-- every effect is orderly
pub orderly : (instr : Instr) (regs : Regs) (line : Line) → IsOrderly regs line (effect instr regs line)
unfolding effect
orderly (Call disp) regs line = goes_on regs line _ line
orderly (Sethi rd imm) regs line = goes_on regs line _ line
orderly (Branch annul condition disp) regs line = goes_on regs line _ line
orderly (Arith op3 rd rs1 operand) regs line = goes_on regs line _ line
orderly (Shift op3 rd rs1 operand) regs line = goes_on regs line _ line
orderly (ReadY rd) regs line = goes_on regs line _ line
orderly (WriteY rs1 operand) regs line = goes_on regs line _ line
orderly (Jmpl rd rs1 operand) regs line =
    let P : Regs × Outcome → Type 0 = λ a. IsOrderly regs line (beside line a) in
    choice P (address_of rs1 operand regs % 4 == 0) _ _ (goes_on regs line _ line) (stops regs line _ (λ l m e. cc))
orderly (TrapOn condition rs1 operand) regs line =
    let P : Regs × Outcome → Type 0 = λ a. IsOrderly regs line (beside line a) in
    let number = address_of rs1 operand regs % 2 ^ 7 in
    choice P (holds condition regs) _ _
    (choice P (number == 0) _ _ (stops regs line _ (λ l m e. cc))
    (choice P (number == 1) _ _ (record { still = λ h. absurd h; found = λ l m e. cc }) (stops regs line _ (λ l m e. cc))))
    (goes_on regs line _ line)
orderly (Memory op3 rd rs1 operand) regs line =
    let P = IsOrderly regs line in
    choice P (is_load op3) _ _ (goes_on regs line _ line)
    (choice P (is_in (0x0D ∷ 0x0F ∷ []) op3) _ _ (goes_on regs line _ _) (goes_on regs line _ _))

kept : {line : Line} (b : Bool) → not b ≡ false → (regs : Regs) (after : Regs × Line × Outcome) → (cond b (regs, line, Done) after).1 ≡ line
kept true e regs after = refl
kept false e regs after = cc

-- an instruction that is no store, LDSTUB or SWAP leaves the line as it is
pub line_stays : (instr : Instr) (regs : Regs) (line : Line) → writes instr ≡ false → (effect instr regs line).1 ≡ line
unfolding effect
line_stays (Call disp) regs line w = refl
line_stays (Sethi rd imm) regs line w = refl
line_stays (Branch annul condition disp) regs line w = refl
line_stays (Arith op3 rd rs1 operand) regs line w = refl
line_stays (Shift op3 rd rs1 operand) regs line w = refl
line_stays (ReadY rd) regs line w = refl
line_stays (WriteY rs1 operand) regs line w = refl
line_stays (Jmpl rd rs1 operand) regs line w = refl
line_stays (TrapOn condition rs1 operand) regs line w = refl
line_stays (Memory op3 rd rs1 operand) regs line w = kept (is_load op3) w _ _

-- ---- turns

-- an instruction's effect, behind the traps of its need
orderly_at : (need : Need) (instr : Instr) (regs : Regs) (line : Line) → IsOrderly regs line (run_at need instr regs line)
orderly_at (needs.Trap type) instr regs line = stops regs line _ (λ l m e. cc)
orderly_at needs.Nothing instr regs line = orderly instr regs line
orderly_at (needs.Copy l m) instr regs line = orderly instr regs line

pub orderly_run : (instr : Instr) (regs : Regs) (lines : ℕ) (line : Line) → IsOrderly regs line (run_of instr regs lines line)
orderly_run instr regs lines line = orderly_at (need instr regs lines) instr regs line

orderly_turn_at : (found : Result Instr ℕ) (regs : Regs) (lines : ℕ) (line : Line) → IsOrderly regs line (turn_at found regs lines line)
orderly_turn_at (Ok instr) regs lines line = orderly_run instr regs lines line
orderly_turn_at (Err type) regs lines line = stops regs line _ (λ l m e. cc)

-- every turn is orderly
pub orderly_turn : (code : List ℕ) (regs : Regs) (lines : ℕ) (line : Line) → IsOrderly regs line (turn_of code regs lines line)
unfolding turn_of
orderly_turn code regs lines line = orderly_turn_at (fetched code regs.pc) regs lines line

-- ---- the line that is needed

abbrev Chosen : Bool → Bool → LineNo → Mode → Need
Chosen aligned shared line mode = cond aligned (cond shared (needs.Copy line mode) (needs.Trap 0x09)) (needs.Trap 0x07)

chosen_is : (aligned shared : Bool) (line l : LineNo) (mode m : Mode) → Chosen aligned shared line mode ≡ needs.Copy l m → (shared ≡ true) × (line ≡ l) × (mode ≡ m)
chosen_is false shared line l mode m e = cc
chosen_is true false line l mode m e = cc
chosen_is true true line l mode m e = (refl, cc, cc)

second : (a b : Bool) → a && b ≡ true → b ≡ true
second true b e = e
second false b e = cc

below : (address lines : ℕ) → is_shared address lines ≡ true → (address - shared_base) / 16 < lines
below address lines e = ltb-true _ _ (second _ _ e)

-- the mode of an access, from its need
mode_is_read : (op3 : ℕ) → mode_of op3 ≡ Read → not (is_load op3) ≡ false
mode_is_read op3 e = go (is_load op3) e
  where
    go : (b : Bool) → cond b Read Write ≡ Read → not b ≡ false
    go true e = refl
    go false e = cc

-- a line that is needed exists
pub needed_exists : (instr : Instr) (regs : Regs) (lines : ℕ) (line : LineNo) (mode : Mode) → need instr regs lines ≡ needs.Copy line mode → line.0 < lines
unfolding need
needed_exists (Call disp) regs lines line mode e = cc
needed_exists (Sethi rd imm) regs lines line mode e = cc
needed_exists (Branch annul condition disp) regs lines line mode e = cc
needed_exists (Arith op3 rd rs1 operand) regs lines line mode e = cc
needed_exists (Shift op3 rd rs1 operand) regs lines line mode e = cc
needed_exists (ReadY rd) regs lines line mode e = cc
needed_exists (WriteY rs1 operand) regs lines line mode e = cc
needed_exists (Jmpl rd rs1 operand) regs lines line mode e = cc
needed_exists (TrapOn condition rs1 operand) regs lines line mode e = cc
needed_exists (Memory op3 rd rs1 operand) regs lines line mode e =
    let address = address_of rs1 operand regs in
    let k = chosen_is (address % bytes_in (width_of op3) == 0) (is_shared address lines) (record { 0 = (address - shared_base) / 16 }) line (mode_of op3) mode e in
    let b = below address lines k.0 in
    let f : (address - shared_base) / 16 ≡ line.0 = ap (λ (l : LineNo). l.0) k.1 in
    omega arith

-- an instruction that only needs to read leaves the line as it is
pub read_stays : (instr : Instr) (regs : Regs) (lines : ℕ) (line : LineNo) → need instr regs lines ≡ needs.Copy line Read → writes instr ≡ false
unfolding need
read_stays (Call disp) regs lines line e = refl
read_stays (Sethi rd imm) regs lines line e = refl
read_stays (Branch annul condition disp) regs lines line e = refl
read_stays (Arith op3 rd rs1 operand) regs lines line e = refl
read_stays (Shift op3 rd rs1 operand) regs lines line e = refl
read_stays (ReadY rd) regs lines line e = refl
read_stays (WriteY rs1 operand) regs lines line e = refl
read_stays (Jmpl rd rs1 operand) regs lines line e = refl
read_stays (TrapOn condition rs1 operand) regs lines line e = refl
read_stays (Memory op3 rd rs1 operand) regs lines line e =
    let address = address_of rs1 operand regs in
    mode_is_read op3 (chosen_is (address % bytes_in (width_of op3) == 0) (is_shared address lines) (record { 0 = (address - shared_base) / 16 }) line (mode_of op3) Read e).2

-- the same of turns
turn_exists_at : (found : Result Instr ℕ) (regs : Regs) (lines : ℕ) (line : LineNo) (mode : Mode) → need_at found regs lines ≡ needs.Copy line mode → line.0 < lines
turn_exists_at (Ok instr) regs lines line mode e = needed_exists instr regs lines line mode e
turn_exists_at (Err type) regs lines line mode e = cc

pub turn_exists : (code : List ℕ) (regs : Regs) (lines : ℕ) (line : LineNo) (mode : Mode) → need_of code regs lines ≡ needs.Copy line mode → line.0 < lines
unfolding need_of
turn_exists code regs lines line mode e = turn_exists_at (fetched code regs.pc) regs lines line mode e

run_stays : (need : Need) (instr : Instr) (regs : Regs) (line : LineNo) (value : Line) → writes instr ≡ false → (run_at need instr regs value).1 ≡ value
run_stays needs.Nothing instr regs line value w = line_stays instr regs value w
run_stays (needs.Copy l m) instr regs line value w = line_stays instr regs value w
run_stays (needs.Trap type) instr regs line value w = refl

turn_stays_at : (found : Result Instr ℕ) (regs : Regs) (lines : ℕ) (line : LineNo) (value : Line) → need_at found regs lines ≡ needs.Copy line Read → (turn_at found regs lines value).1 ≡ value
turn_stays_at (Ok instr) regs lines line value e = run_stays (need instr regs lines) instr regs line value (read_stays instr regs lines line e)
turn_stays_at (Err type) regs lines line value e = refl

-- a turn that only needs to read leaves the line as it is
pub turn_stays : (code : List ℕ) (regs : Regs) (lines : ℕ) (line : LineNo) (value : Line) → need_of code regs lines ≡ needs.Copy line Read → (turn_of code regs lines value).1 ≡ value
unfolding need_of turn_of
turn_stays code regs lines line value e = turn_stays_at (fetched code regs.pc) regs lines line value e
