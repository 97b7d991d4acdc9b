-- An access whose need is known runs by what it is on the line.
use Rattle.std.proofs.Common.{◌≡◌, ℕ, true, false, subst, sym, refl}
use Rattle.alw_num.specs.declared.addresses.LineNo.{LineNo}
use Rattle.alw_num.specs.declared.states.Mode.{Mode}
use Rattle.alw_num.specs.declared.states.Mode.TheVariants.{Read, Write}
use Rattle.sparc_table.specs.Operands.{address_of}
use Rattle.sparc_table.specs.Access.{needed, width_of, is_load, mode_of}
use Rattle.sparc_table.specs.Meaning.{need, effect, accessed}
use Rattle.sparc_table.specs.Turns.{run_of, run_at}
use Rattle.sparc_table.specs.declared.registers.Regs.{Regs}
use Rattle.sparc_table.specs.declared.instructions.Operand.{Operand}
use Rattle.sparc_table.specs.declared.instructions.Instr.TheVariants.{Memory}
use Rattle.sparc_table.specs.declared.outcomes.Need.{Need}
use Rattle.sparc_table.specs.declared.outcomes.Need.TheVariants as needs
use Rattle.sparc_table.specs.declared.outcomes.Outcome.{Outcome}
use Rattle.sparc_table.specs.declared.outcomes.Outcome.TheVariants as ends
use Rattle.sparc_exec.specs.Ports.{granted}
use Rattle.sparc_exec.specs.Runs.{Seen, IsRunOn, IsRunWith}

-- an access that needs a line
runs_on : (op3 rd rs1 : ℕ) (operand : Operand) (regs : Regs) (lines address : ℕ) (line : LineNo) (mode : Mode) (before after : Seen) (outcome : Outcome)
    → address ≡ address_of rs1 operand regs → mode_of op3 ≡ mode → needed address (width_of op3) (mode_of op3) lines ≡ needs.Copy line (mode_of op3)
    → IsRunOn (granted mode (before.copies line.0)) line mode (accessed op3 rd address regs) before after outcome
    → IsRunWith (need (Memory op3 rd rs1 operand) regs lines) (run_of (Memory op3 rd rs1 operand) regs lines) before after outcome
unfolding need effect
runs_on op3 rd rs1 operand regs lines address line mode before after outcome a m e h =
    let f : needed (address_of rs1 operand regs) (width_of op3) (mode_of op3) lines ≡ needs.Copy line mode = rw (← a, ← m) e in
    let P : Need → Type 0 = λ n. IsRunWith n (run_at n (Memory op3 rd rs1 operand) regs) before after outcome in
    let k : IsRunOn (granted mode (before.copies line.0)) line mode (accessed op3 rd (address_of rs1 operand regs) regs) before after outcome = rw (← a) h in
    subst P (sym f) k

pub runs_load : (op3 rd rs1 : ℕ) (operand : Operand) (regs : Regs) (lines address : ℕ) (line : LineNo) (before after : Seen) (outcome : Outcome)
    → address ≡ address_of rs1 operand regs → is_load op3 ≡ true → needed address (width_of op3) (mode_of op3) lines ≡ needs.Copy line (mode_of op3)
    → IsRunOn (granted Read (before.copies line.0)) line Read (accessed op3 rd address regs) before after outcome
    → IsRunWith (need (Memory op3 rd rs1 operand) regs lines) (run_of (Memory op3 rd rs1 operand) regs lines) before after outcome
runs_load op3 rd rs1 operand regs lines address line before after outcome a load e h =
    runs_on op3 rd rs1 operand regs lines address line Read before after outcome a (rw load refl) e h

pub runs_write : (op3 rd rs1 : ℕ) (operand : Operand) (regs : Regs) (lines address : ℕ) (line : LineNo) (before after : Seen) (outcome : Outcome)
    → address ≡ address_of rs1 operand regs → is_load op3 ≡ false → needed address (width_of op3) (mode_of op3) lines ≡ needs.Copy line (mode_of op3)
    → IsRunOn (granted Write (before.copies line.0)) line Write (accessed op3 rd address regs) before after outcome
    → IsRunWith (need (Memory op3 rd rs1 operand) regs lines) (run_of (Memory op3 rd rs1 operand) regs lines) before after outcome
runs_write op3 rd rs1 operand regs lines address line before after outcome a load e h =
    runs_on op3 rd rs1 operand regs lines address line Write before after outcome a (rw load refl) e h

-- an access that traps
pub runs_trap : (op3 rd rs1 : ℕ) (operand : Operand) (regs : Regs) (lines address type : ℕ) (state : Seen)
    → state.regs ≡ regs → address ≡ address_of rs1 operand regs → needed address (width_of op3) (mode_of op3) lines ≡ needs.Trap type
    → IsRunWith (need (Memory op3 rd rs1 operand) regs lines) (run_of (Memory op3 rd rs1 operand) regs lines) state state (ends.Trap type)
unfolding need
runs_trap op3 rd rs1 operand regs lines address type state same a e =
    let f : needed (address_of rs1 operand regs) (width_of op3) (mode_of op3) lines ≡ needs.Trap type = rw (← a) e in
    let P : Need → Type 0 = λ n. IsRunWith n (run_at n (Memory op3 rd rs1 operand) regs) state state (ends.Trap type) in
    subst P (sym f) ((λ line. rw same refl), (λ l. refl), refl)
