-- What is read of a context before its turn, from which what the turn did is told.
use Rattle.std.specs.Prelude.{◌≡◌, ◌<◌, ℕ, List}
use Rattle.alw_num.specs.Lanes.{IsAligned}
use Rattle.sparc_table.specs.Access.{width_of}
use Rattle.sparc_table.specs.Operands.{address_of}
use Rattle.sparc_table.specs.Turns.{need_of}
use Rattle.sparc_table.specs.declared.registers.Regs.{Regs}
use Rattle.sparc_table.specs.declared.instructions.Instr.{Instr}
use Rattle.sparc_table.specs.declared.instructions.Instr.TheVariants.{Memory}
use Rattle.sparc_table.specs.declared.outcomes.Need.{Need}
use Rattle.sparc_table.specs.declared.outcomes.Need.TheVariants as needs
use Rattle.alw_effects.specs.declared.before.SlotBefore.{SlotBefore}

-- the need is that of the instruction at the PC, where shared data has some number of lines
pub record IsBeforeTurn (code : List ℕ) (before : SlotBefore) : Type 0 where
  pub lines : ℕ
  pub need : before.need ≡ need_of code before.regs lines

-- the line that is needed exists
abbrev pub IsLineOf : ℕ → Need → Type 0
IsLineOf lines (needs.Copy line mode) = line.0 < lines
IsLineOf lines _ = Unit {0}

-- an access that needs a copy is aligned
abbrev pub IsAlignedIn : Need → Instr → Regs → Type 0
IsAlignedIn (needs.Copy line mode) (Memory op3 rd rs1 operand) regs = IsAligned (width_of op3) (address_of rs1 operand regs)
IsAlignedIn _ _ regs = Unit {0}
