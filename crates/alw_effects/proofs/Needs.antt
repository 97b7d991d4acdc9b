-- What a turn needs: a line that exists, at an address that is aligned.
use Rattle.std.proofs.Common.{◌≡◌, ℕ, ◌-◌, ◌/◌, ◌%◌, ◌==◌, Bool, true, false, cond, Result, Ok, List, refl, sym, subst}
use Rattle.std.proofs.lemmas.Bool.{eqb-true}
use Rattle.alw_num.specs.Limits.{shared_base}
use Rattle.alw_num.specs.Lanes.{bytes_in}
use Rattle.sparc_table.specs.Access.{width_of, mode_of, is_shared, needed}
use Rattle.sparc_table.specs.Meaning.{need}
use Rattle.sparc_table.specs.Operands.{address_of}
use Rattle.sparc_table.specs.Turns.{fetched, need_at, need_of}
use Rattle.sparc_table.specs.declared.registers.Regs.{Regs}
use Rattle.sparc_table.specs.declared.instructions.Operand.{Operand}
use Rattle.sparc_table.specs.declared.instructions.Instr.{Instr}
use Rattle.sparc_table.specs.declared.instructions.Instr.TheVariants.{Call, Sethi, Branch, Arith, Shift, ReadY, WriteY, Jmpl, TrapOn, Memory}
use Rattle.sparc_table.specs.declared.outcomes.Need.{Need}
use Rattle.sparc_table.specs.declared.outcomes.Need.TheVariants as needs
use Rattle.sparc_table.proofs.Effects.{turn_exists}
use Rattle.alw_effects.specs.declared.before.SlotBefore.{SlotBefore}
use Rattle.alw_effects.specs.Before.{IsBeforeTurn, IsLineOf, IsAlignedIn}

-- the line that a turn needs exists
pub line_exists : (code : List ℕ) (regs : Regs) (lines : ℕ) → IsLineOf lines (need_of code regs lines)
line_exists code regs lines = go (need_of code regs lines) refl
  where
    go : (n : Need) → need_of code regs lines ≡ n → IsLineOf lines n
    go (needs.Copy line mode) is = turn_exists code regs lines line mode is
    go needs.Nothing is = tt
    go (needs.Trap type) is = tt

module _ (regs : Regs) (lines : ℕ) where
  access_aligned : (op3 rd rs1 : ℕ) (operand : Operand)
      → IsAlignedIn (needed (address_of rs1 operand regs) (width_of op3) (mode_of op3) lines) (Memory op3 rd rs1 operand) regs
  access_aligned op3 rd rs1 operand = go (address_of rs1 operand regs % bytes_in (width_of op3) == 0) refl (is_shared (address_of rs1 operand regs) lines)
    where
      go : (a : Bool) → (address_of rs1 operand regs % bytes_in (width_of op3) == 0) ≡ a → (b : Bool)
          → IsAlignedIn (cond a (cond b (needs.Copy (record { 0 = (address_of rs1 operand regs - shared_base) / 16 }) (mode_of op3)) (needs.Trap 0x09)) (needs.Trap 0x07))
          (Memory op3 rd rs1 operand) regs
      go true is true = eqb-true (address_of rs1 operand regs % bytes_in (width_of op3)) 0 is
      go true is false = tt
      go false is b = tt

  aligned_by : (instr : Instr) → IsAlignedIn (need instr regs lines) instr regs
  unfolding need
  aligned_by (Call disp) = tt
  aligned_by (Sethi rd imm) = tt
  aligned_by (Branch annul condition disp) = tt
  aligned_by (Arith op3 rd rs1 operand) = tt
  aligned_by (Shift op3 rd rs1 operand) = tt
  aligned_by (ReadY rd) = tt
  aligned_by (WriteY rs1 operand) = tt
  aligned_by (Jmpl rd rs1 operand) = tt
  aligned_by (TrapOn condition rs1 operand) = tt
  aligned_by (Memory op3 rd rs1 operand) = access_aligned op3 rd rs1 operand

  fetched_aligned : (code : List ℕ) (instr : Instr) → fetched code regs.pc ≡ Ok instr → IsAlignedIn (need_of code regs lines) instr regs
  unfolding need_of
  fetched_aligned code instr is = subst (λ (got : Result Instr ℕ). IsAlignedIn (need_at got regs lines) instr regs) (sym is) (aligned_by instr)

-- the instruction that is fetched is aligned where it needs a copy
pub is_aligned : (code : List ℕ) (before : SlotBefore) (instr : Instr) → IsBeforeTurn code before → fetched code before.regs.pc ≡ Ok instr → IsAlignedIn before.need instr before.regs
is_aligned code before instr is found = subst (λ (n : Need). IsAlignedIn n instr before.regs) (sym is.need) (fetched_aligned before.regs is.lines code instr found)
