-- The pieces of what a slot did, beside those of its turn.
use Rattle.std.specs.Prelude.{ℕ, Option, None, Some, List, [], ◌++◌, codes}
use Rattle.std.specs.Fmt.{decimal}
use Rattle.sparc_table.specs.declared.registers.Regs.{Regs}
use Rattle.alw_effects.specs.Pieces.{stood_text}

-- the slot that runs, its PC and the statement there
unfoldable pub slot_text : List ℕ → ℕ → Regs → List ℕ
slot_text code slot regs = codes " slot " ++ (decimal slot ++ stood_text code regs.pc)

-- a number behind a word
abbrev pub ends_text : Option ℕ → List ℕ
ends_text None = []
ends_text (Some line) = codes " ends-hold " ++ decimal line
