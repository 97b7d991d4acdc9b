-- The contexts of a node: registers, status and hold of each slot, which slot runs, and what wakes those that wait (the papers on Alewife: up to four contexts per processor, and a switch to another on a remote miss).
use Rattle.std.specs.Prelude.{ℕ, ◌+◌, ◌*◌, ◌%◌, Bool, cond, ◌==◌, Option, Some, None, List, map, find, length, slice_index_or, slice_set, unwrap_or, is_some}
use Rattle.std.specs.List.{list_any, list_all, range_with_len}
use Rattle.sparc_table.specs.Registers.{start_of}
use Rattle.sparc_table.specs.declared.registers.Regs.{Regs}
use Rattle.alw_msg.specs.declared.contexts.Status.{Status}
use Rattle.alw_msg.specs.declared.contexts.Status.TheVariants.{Ready, Halted}
use Rattle.alw_msg.specs.Statuses.{is_ready, is_halted, waits_on}
use Rattle.alw_image.specs.declared.parts.Parts.{Parts}
use Rattle.alw_image.specs.Images.{context_count}
use Rattle.alw_image.specs.Images as images
use Rattle.alw_num.specs.Maps.{passes}

-- a slot of a node, which holds one context
pub record Slot : Type 0 where
  pub regs : Regs
  pub status : Status
  pub hold : Option ℕ

-- the registers of a context at the start: PC is the image's start, or 0 where it has none
abbrev pub regs_start : Parts → ℕ → Option ℕ → Regs
regs_start parts context start = start_of (unwrap_or start 0) context (context_count parts)

-- a context without a start in the image is halted from the beginning
abbrev pub status_start : Option ℕ → Status
status_start start = cond (is_some start) Ready Halted

-- a slot at the start
abbrev pub slot_start : Parts → ℕ → ℕ → Slot
slot_start parts node slot =
    let start = images.started_at parts node slot in
    record { regs = regs_start parts (node * parts.contexts + slot) start; status = status_start start; hold = None }

-- the slots of a node at the start
abbrev pub slots_start : Parts → ℕ → List Slot
slots_start parts node = map (slot_start parts node) (range_with_len 0 parts.contexts)

-- the slot with this number, or one that has halted where there is none
abbrev pub no_slot : Slot
no_slot = record { regs = start_of 0 0 0; status = Halted; hold = None }

abbrev pub slot_at : List Slot → ℕ → Slot
slot_at slots slot = slice_index_or slots slot no_slot

-- slot numbers in the order current, current + 1 and so on modulo their number
abbrev pub turn_order : ℕ → ℕ → List ℕ
turn_order current count = map (λ k. (current + k) % count) (range_with_len 0 count)

-- the slot that runs: the first Ready one in that order
abbrev pub running : List Slot → ℕ → Option ℕ
running slots current = find (λ slot. is_ready (slot_at slots slot).status) (turn_order current (length slots))

-- an instruction event leaves its slot with these registers and this status, and ends its hold
abbrev pub ran : List Slot → ℕ → Regs → Status → List Slot
ran slots slot regs status = slice_set slots slot (record { regs = regs; status = status; hold = None })

-- a slot once a transaction on the line has ended: it becomes Ready where it waits on the line
abbrev pub woken : ℕ → Slot → Slot
woken line slot = cond (waits_on line slot.status) (record slot { status = Ready }) slot

-- the end of a transaction on a line makes Ready exactly the slots that wait on it
abbrev pub wake : ℕ → List Slot → List Slot
wake line slots = map (woken line) slots

-- a slot is given a hold on a line
abbrev pub give_hold : ℕ → ℕ → List Slot → List Slot
give_hold line slot slots = slice_set slots slot (record (slot_at slots slot) { hold = Some line })

-- a line is held at a node while it is the hold of one of its slots
abbrev pub is_held : List Slot → ℕ → Bool
is_held slots line = list_any (λ slot. passes (λ held. held == line) slot.hold) slots

-- every context has halted
abbrev pub all_halted : List Slot → Bool
all_halted slots = list_all (λ slot. is_halted slot.status) slots
