-- What a turn does, as a function of the memory and the registers of its context.
use Rattle.std.specs.Prelude.{◌≡◌, List, Option, Some, None, slice_index_or, slice_set}
use Rattle.alw_num.specs.declared.addresses.Line.{Line}
use Rattle.alw_num.specs.declared.addresses.LineNo.{LineNo}
use Rattle.alw_num.specs.declared.states.Mode.{Mode}
use Rattle.alw_num.specs.declared.states.Mode.TheVariants.{Read, Write}
use Rattle.sparc_table.specs.Turns.{need_of, turn_of}
use Rattle.sparc_table.specs.declared.registers.Regs.{Regs}
use Rattle.sparc_table.specs.declared.outcomes.Need.{Need}
use Rattle.sparc_table.specs.declared.outcomes.Need.TheVariants as needs
use Rattle.sparc_table.specs.declared.outcomes.Outcome.{Outcome}
use Rattle.alw_image.specs.declared.parts.Parts.{Parts}
use Rattle.alw_image.specs.Images.{line_count, zero_line}
use Rattle.alw_model.specs.Flat.{stored_in}
use Rattle.alw_places.specs.declared.turns.Left.{Left}

-- what a turn leaves: memory, registers and outcome
pub record Effect : Type 0 where
  pub memory : List Line
  pub regs : Regs
  pub outcome : Outcome

unfoldable pub effect_by : Parts → List Line → Regs → Need → Effect
effect_by parts memory regs (needs.Copy line mode) =
    let done = turn_of parts.code regs (line_count parts) (slice_index_or memory line.0 zero_line) in
    record { memory = stored_in memory line.0 mode done.1; regs = done.0; outcome = done.2 }
effect_by parts memory regs _ =
    let done = turn_of parts.code regs (line_count parts) zero_line in
    record { memory = memory; regs = done.0; outcome = done.2 }

unfoldable pub effect_of : Parts → List Line → Regs → Effect
effect_of parts memory regs = effect_by parts memory regs (need_of parts.code regs (line_count parts))

-- a memory with the line that was written, if one was
abbrev pub written : List Line → Option (LineNo × Line) → List Line
written memory None = memory
written memory (Some wrote) = slice_set memory wrote.0.0 wrote.1

-- what code says of a turn on a line's copy, where it is this
abbrev pub LeftOn : Regs × Line × Outcome → LineNo → Mode → Left → Type 0
LeftOn done line Read left = (left.regs ≡ done.0) × (left.wrote ≡ None) × (left.outcome ≡ done.2)
LeftOn done line Write left = (left.regs ≡ done.0) × (left.wrote ≡ Some (line, done.1)) × (left.outcome ≡ done.2)

-- the same where no copy is needed
abbrev pub LeftAlone : Regs × Line × Outcome → Left → Type 0
LeftAlone done left = (left.regs ≡ done.0) × (left.wrote ≡ None) × (left.outcome ≡ done.2)
