-- How a run ended: the end that holds after its journal, with the first trapping turn, or with the first event that only the limit keeps back.
use Rattle.std.specs.Prelude.{◌≡◌, ℕ, ◌+◌, Option, None, Some, List, [], ◌∷◌, find}
use Rattle.sparc_table.specs.declared.outcomes.Outcome.TheVariants.{Trap}
use Rattle.alw_msg.specs.declared.events.Entry.{Entry}
use Rattle.alw_image.specs.declared.parts.Parts.{Parts}
use Rattle.alw_image.specs.Parameters.{Parameters}
use Rattle.alw_model.specs.declared.ends.Ended.{Ended}
use Rattle.alw_model.specs.declared.ends.Ended.TheVariants.{Halted, Trapped, Limit}
use Rattle.alw_model.specs.declared.ends.TrapAt.{TrapAt}
use Rattle.alw_model.specs.declared.steps.Did.{Did}
use Rattle.alw_model.specs.declared.steps.Did.TheVariants.{Turn}
use Rattle.alw_model.specs.Contexts.{slot_at}
use Rattle.alw_model.specs.Machine.{state, is_enabled, main_events, end_of}
use Rattle.alw_model.specs.Machine as machine
use Rattle.alw_model.specs.Runs.{Moment, number_of, moments}

-- an event that was a trapping turn: where it stands in the journal, node, slot, PC and the type of the trap
abbrev pub trap_in : ℕ → Moment → Did → Option TrapAt
trap_in entry moment (Turn slot (Trap tt)) =
    Some (record { entry = entry; node = number_of moment; slot = slot; pc = (slot_at moment.before.slots slot).regs.pc; tt = tt })
trap_in entry moment _ = None

abbrev pub or_else : Option TrapAt → Option TrapAt → Option TrapAt
or_else None rest = rest
or_else (Some at) rest = Some at

-- the first trapping turn of a run, whose first event has this place
abbrev pub first_trap : ℕ → List Moment → Option TrapAt
first_trap entry [] = None
first_trap entry (moment ∷ rest) = or_else (trap_in entry moment moment.stepped.did) (first_trap (entry + 1) rest)

-- the end that holds after a journal, with the first trapping turn, or the first main event that is enabled but for the limit
abbrev pub IsEnd : Parts → Parameters → List Entry → Ended → Type 0
IsEnd parts parameters journal Halted = end_of parts parameters (state parts parameters journal) ≡ Some machine.Halted
IsEnd parts parameters journal (Trapped at) =
    (end_of parts parameters (state parts parameters journal) ≡ Some machine.Trapped) × (first_trap 0 (moments parts parameters journal) ≡ Some at)
IsEnd parts parameters journal (Limit event) =
    (end_of parts parameters (state parts parameters journal) ≡ Some machine.Limit)
    × (find (λ e. is_enabled parts parameters (state parts parameters journal) e) (main_events parts) ≡ Some event)
