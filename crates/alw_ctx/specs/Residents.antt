-- The contexts of a node as it keeps them: four places, of which the first so many are its slots.
use Rattle.std.specs.Prelude.{ℕ, List, map, take, is_some}
use Rattle.std.specs.Option.{option_map}
use Rattle.alw_num.specs.Weights.{digit, weigh}
use Rattle.alw_num.specs.declared.addresses.LineNo.{LineNo}
use Rattle.sparc_table.specs.declared.registers.Regs.{Regs}
use Rattle.sparc_table.specs.declared.outcomes.Outcome.{Outcome}
use Rattle.sparc_table.specs.declared.outcomes.Outcome.TheVariants.{Miss}
use Rattle.alw_msg.specs.declared.contexts.Status.{Status}
use Rattle.alw_msg.specs.declared.contexts.Status.TheVariants.{Waiting}
use Rattle.alw_model.specs.Contexts.{Slot}
use Rattle.alw_model.specs.ProcessorSteps.{status_after}
use Rattle.alw_ctx.specs.declared.residents.Resident.{Resident}

-- the contexts of a node: its slots, and the number of the current one
pub record NodeContexts : Type 0 where
  pub slots : List Slot
  pub current : ℕ

-- the number of a line
abbrev pub number_of : LineNo → ℕ
number_of line = line.0

-- a place as a slot
abbrev pub slot_of : Resident → Slot
slot_of resident = record { regs = resident.regs; status = resident.status; hold = option_map number_of resident.hold }

-- the first so many places as slots
abbrev pub slots_of : ℕ → List Resident → List Slot
slots_of count places = take count (map slot_of places)

-- the number of slots with a hold
abbrev pub holds_of : List Slot → ℕ
holds_of slots = weigh (λ slot. digit (is_some slot.hold)) slots

-- a context after a turn, which waits on the line that it misses
abbrev pub left_by : Regs → Outcome → Status
left_by regs (Miss line mode) = Waiting line
left_by regs outcome = status_after regs outcome
