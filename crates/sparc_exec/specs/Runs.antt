-- What an instruction does over a port: its meaning, on the copy that it needs.
use Rattle.std.specs.Prelude.{◌≡◌, ℕ, List, Option, Some, None, Result, Ok, Err}
use Rattle.alw_num.specs.declared.addresses.Line.{Line}
use Rattle.alw_num.specs.declared.addresses.LineNo.{LineNo}
use Rattle.alw_num.specs.declared.states.Mode.{Mode}
use Rattle.alw_num.specs.declared.states.Mode.TheVariants.{Read, Write}
use Rattle.sparc_table.specs.declared.registers.Regs.{Regs}
use Rattle.sparc_table.specs.declared.outcomes.Need.{Need}
use Rattle.sparc_table.specs.declared.outcomes.Need.TheVariants as needs
use Rattle.sparc_table.specs.declared.outcomes.Outcome.{Outcome}
use Rattle.sparc_table.specs.declared.outcomes.Outcome.TheVariants as ends
use Rattle.sparc_exec.specs.Ports.{Copies, Access, Grab, Put, granted, with_copy, and_then}

-- what an instruction may change: registers and copies, and the calls that are made on the port
pub record Seen : Type 0 where
  pub regs : Regs
  pub copies : Copies
  pub calls : Option (List Access)

-- the same, from its parts
abbrev pub seen : Regs → Copies → Option (List Access) → Seen
seen regs copies calls = record { regs = regs; copies = copies; calls = calls }

-- each line has the copy that it had
abbrev pub Same : Copies → Copies → Type 0
Same before after = (l : ℕ) → after l ≡ before l

-- without the copy that it needs an instruction misses, and changes nothing
abbrev pub Missed : LineNo → Mode → Seen → Seen → Outcome → Type 0
Missed line mode before after outcome =
    (outcome ≡ ends.Miss line mode) × (after.regs ≡ before.regs) × Same before.copies after.copies × (after.calls ≡ and_then before.calls (Grab line.0 mode))

-- with it, it takes effect: where it needs to write, the copy gets the new line
abbrev pub Completed : LineNo → Mode → Regs × Line × Outcome → Seen → Seen → Outcome → Type 0
Completed line Read effect before after outcome =
    (outcome ≡ effect.2) × (after.regs ≡ effect.0) × Same before.copies after.copies × (after.calls ≡ and_then before.calls (Grab line.0 Read))
Completed line Write effect before after outcome =
    (outcome ≡ effect.2) × (after.regs ≡ effect.0) × Same (with_copy line.0 effect.1 before.copies) after.copies × (after.calls ≡ and_then (and_then before.calls (Grab line.0 Write)) (Put line.0 effect.1))

-- an instruction on the copy that it asked for
abbrev pub IsRunOn : Option Line → LineNo → Mode → (Line → Regs × Line × Outcome) → Seen → Seen → Outcome → Type 0
IsRunOn None line mode effect before after outcome = Missed line mode before after outcome
IsRunOn (Some value) line mode effect before after outcome = Completed line mode (effect value) before after outcome

-- an instruction with this need and this effect. Where it needs no copy, its effect is the same on every line and leaves the line
abbrev pub IsRunWith : Need → (Line → Regs × Line × Outcome) → Seen → Seen → Outcome → Type 0
IsRunWith (needs.Copy line mode) effect before after outcome = IsRunOn (granted mode (before.copies line.0)) line mode effect before after outcome
IsRunWith _ effect before after outcome = ((line : Line) → effect line ≡ (after.regs, line, outcome)) × Same before.copies after.copies × (after.calls ≡ before.calls)

-- the copy that an instruction needs isn't there
abbrev pub CopyIsMissing : Need → Copies → LineNo → Mode → Type 0
CopyIsMissing need copies line mode = (need ≡ needs.Copy line mode) × (granted mode (copies line.0) ≡ None)

-- the need of an access whose line, or trap, is known
abbrev pub need_with : Mode → Result LineNo ℕ → Need
need_with mode (Ok line) = needs.Copy line mode
need_with mode (Err tt) = needs.Trap tt
