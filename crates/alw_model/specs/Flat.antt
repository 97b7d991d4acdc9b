-- The flat machine: contexts that take turns on one memory (after Lamport 1979, the definition of sequential consistency).
use Rattle.std.specs.Prelude.{ℕ, ◌/◌, ◌%◌, Bool, true, ◌&&◌, List, [], ◌∷◌, ◌++◌, map, slice_index_or, slice_set, IsTrue}
use Rattle.std.specs.List.{range_with_len}
use Rattle.alw_num.specs.declared.addresses.Line.{Line}
use Rattle.alw_num.specs.declared.states.Mode.{Mode}
use Rattle.alw_num.specs.declared.states.Mode.TheVariants.{Read, Write}
use Rattle.sparc_table.specs.Registers.{start_of}
use Rattle.sparc_table.specs.Turns.{need_of, turn_of}
use Rattle.sparc_table.specs.declared.registers.Regs.{Regs}
use Rattle.sparc_table.specs.declared.outcomes.Need.{Need}
use Rattle.sparc_table.specs.declared.outcomes.Need.TheVariants as needs
use Rattle.sparc_table.specs.declared.outcomes.Outcome.{Outcome}
use Rattle.sparc_table.specs.declared.outcomes.Outcome.TheVariants.{Out}
use Rattle.alw_msg.specs.declared.contexts.Status.{Status}
use Rattle.alw_msg.specs.declared.contexts.Status.TheVariants.{Halted}
use Rattle.alw_msg.specs.Statuses.{is_ready}
use Rattle.alw_image.specs.declared.parts.Parts.{Parts}
use Rattle.alw_image.specs.Images.{line_count, context_count, body_of, zero_line}
use Rattle.alw_image.specs.Images as images
use Rattle.alw_model.specs.Contexts.{regs_start, status_start}
use Rattle.alw_model.specs.ProcessorSteps.{status_after}

-- a context: its registers, and whether it is Ready, Halted or Trapped
pub record Context : Type 0 where
  pub regs : Regs
  pub status : Status

-- the values of all lines, and all contexts, by number
pub record Flat : Type 0 where
  pub memory : List Line
  pub contexts : List Context

-- a context at the start
abbrev pub context_start : Parts → ℕ → Context
context_start parts context =
    let start = images.started_at parts (context / parts.contexts) (context % parts.contexts) in
    record { regs = regs_start parts context start; status = status_start start }

-- the flat machine at the start
abbrev pub flat_start : Parts → Flat
flat_start parts = record { memory = map (body_of parts) (range_with_len 0 (line_count parts)); contexts = map (context_start parts) (range_with_len 0 (context_count parts)) }

-- the context with this number, or one that has halted where there is none
abbrev pub context_at : Flat → ℕ → Context
context_at flat context = slice_index_or flat.contexts context (record { regs = start_of 0 0 0; status = Halted })

-- the value of a line
abbrev pub line_at : Flat → ℕ → Line
line_at flat line = slice_index_or flat.memory line zero_line

-- the memory with a line's new value, where the access was in Write mode
abbrev pub stored_in : List Line → ℕ → Mode → Line → List Line
stored_in memory line Read body = memory
stored_in memory line Write body = slice_set memory line body

-- what a turn leaves in memory and in its context, and its outcome
abbrev pub turned : Flat → ℕ → List Line → Regs → Outcome → Flat × Outcome
turned flat context memory regs outcome = (record { memory = memory; contexts = slice_set flat.contexts context (record { regs = regs; status = status_after regs outcome }) }, outcome)

-- a turn of a context by what it needs: the meaning of its instruction on the line that it needs
abbrev pub flat_turn_by : Parts → Flat → ℕ → Need → Flat × Outcome
flat_turn_by parts flat context (needs.Copy line mode) =
    let done = turn_of parts.code (context_at flat context).regs (line_count parts) (line_at flat line.0) in
    turned flat context (stored_in flat.memory line.0 mode done.1) done.0 done.2
flat_turn_by parts flat context _ =
    let done = turn_of parts.code (context_at flat context).regs (line_count parts) zero_line in
    turned flat context flat.memory done.0 done.2

-- a turn of a context
abbrev pub flat_turn : Parts → Flat → ℕ → Flat × Outcome
flat_turn parts flat context = flat_turn_by parts flat context (need_of parts.code (context_at flat context).regs (line_count parts))

-- the flat machine after the turns of these contexts
abbrev pub turns_after : Parts → Flat → List ℕ → Flat
turns_after parts flat [] = flat
turns_after parts flat (context ∷ rest) = turns_after parts (flat_turn parts flat context).0 rest

-- the word that a turn with this outcome prints, with its context
abbrev pub print_of : ℕ → Outcome → List (ℕ × ℕ)
print_of context (Out word) = (context, word) ∷ []
print_of context _ = []

-- what the turns of these contexts print, in order
abbrev pub turns_print : Parts → Flat → List ℕ → List (ℕ × ℕ)
turns_print parts flat [] = []
turns_print parts flat (context ∷ rest) =
    let done = flat_turn parts flat context in
    print_of context done.1 ++ turns_print parts done.0 rest

-- each of these contexts is Ready at its turn
abbrev pub turns_ready : Parts → Flat → List ℕ → Bool
turns_ready parts flat [] = true
turns_ready parts flat (context ∷ rest) = is_ready (context_at flat context).status && turns_ready parts (flat_turn parts flat context).0 rest

-- the flat run of these contexts' turns from the start: what it leaves, what it prints, and where it is defined
unfoldable pub flat_after : Parts → List ℕ → Flat
flat_after parts turns = turns_after parts (flat_start parts) turns

unfoldable pub flat_prints : Parts → List ℕ → List (ℕ × ℕ)
flat_prints parts turns = turns_print parts (flat_start parts) turns

unfoldable pub are_ready : Parts → List ℕ → Bool
are_ready parts turns = turns_ready parts (flat_start parts) turns

abbrev pub AreReady : Parts → List ℕ → Type 0
AreReady parts turns = IsTrue (are_ready parts turns)
