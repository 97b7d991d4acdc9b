-- The event that a number picks at a cell, and what the event leaves of it.
use Rattle.std.specs.Prelude.{◌≡◌, ℕ, ◌/◌, ◌%◌, ◌^◌, Bool, cond, not, ◌&&◌, nat_lt, nat_le, Option, Some, None, Result, Ok, Err, List, [], ◌∷◌, ◌++◌, map, filter, length, slice_get, slice_set}
use Rattle.std.specs.List.{range_with_len}
use Rattle.alw_num.specs.declared.memory.NoMemory.{NoMemory}
use Rattle.alw_msg.specs.declared.messages.Msg.{Msg}
use Rattle.alw_msg.specs.declared.events.Event.{Event}
use Rattle.alw_msg.specs.declared.events.Event.TheVariants.{Instr, Handle, Deliver, Evict}
use Rattle.alw_msg.specs.declared.events.Entry.{Entry}
use Rattle.alw_msg.specs.Lists.{is_nonempty, front, behind}
use Rattle.alw_image.specs.Images.{node_count}
use Rattle.alw_model.specs.Contexts.{all_halted}
use Rattle.alw_model.specs.NodeStates.{stamp_of, is_enabled_at}
use Rattle.alw_model.specs.NodeSteps.{node_step}
use Rattle.alw_model.specs.NodeSteps as steps
use Rattle.alw_model.specs.Threads.{Logged}
use Rattle.alw_cells.specs.Cells.{Cell, in_from, IsSpent}
use Rattle.alw_cells.specs.declared.cells.Stepped.{Stepped}
use Rattle.alw_cells.specs.declared.cells.Stepped.TheVariants.{Did, Idle}

-- the message that an event takes: a delivery takes the head of its in list, and no other event takes one
abbrev pub taken_by : List (List Msg) → Event → Option Msg
taken_by come (Deliver from to) = front (in_from come from.0)
taken_by come _ = None

-- the in lists without it
abbrev pub come_taken : List (List Msg) → Event → List (List Msg)
come_taken come (Deliver from to) = slice_set come from.0 (behind (in_from come from.0))
come_taken come _ = come

-- an event may happen: it is enabled on what has come, and its stamp is within the limit
abbrev pub may_happen : Cell → Event → Bool
may_happen cell event =
    let taken = taken_by cell.come event in
    is_enabled_at cell.node.parts cell.node.parameters cell.node.number cell.node.state event taken && nat_le (stamp_of cell.node.state.clock taken) cell.node.parameters.limit

-- the main events of a node among so many: an instruction, an action of the handler, and a delivery from each node
abbrev pub main_events_of : ℕ → ℕ → List Event
main_events_of nodes number =
    Instr (record { 0 = number }) ∷ Handle (record { 0 = number }) ∷ map (λ from. Deliver (record { 0 = from }) (record { 0 = number })) (range_with_len 0 nodes)

-- the main events that may happen
abbrev pub next_events : Cell → List Event
next_events cell = filter (may_happen cell) (main_events_of (node_count cell.node.parts) cell.node.number)

-- ---- what a number picks

-- the eviction that a number asks for
abbrev pub asked_eviction : Cell → ℕ → Event
asked_eviction cell number = Evict (record { 0 = cell.node.number }) (number / 2 ^ 16 % cell.node.parameters.sets)

-- it is made where the number's low byte says so, some context of the node hasn't halted, and the eviction may happen
abbrev pub is_evicted : Cell → ℕ → Bool
is_evicted cell number = nat_lt (number % 256) cell.node.parameters.evict && (not (all_halted cell.node.state.slots) && may_happen cell (asked_eviction cell number))

-- where a main event may happen, that eviction, and else number r mod m of the m main events that may; nothing where none may
abbrev pub picked_event : Cell → ℕ → Option Event
picked_event cell number =
    cond (is_nonempty (next_events cell)) (cond (is_evicted cell number) (Some (asked_eviction cell number)) (slice_get (next_events cell) (number % length (next_events cell)))) None

-- ---- what an event leaves

-- what it does at the node
abbrev pub stepped_by : Cell → Event → steps.Stepped
stepped_by cell event = node_step cell.node.parts cell.node.parameters cell.node.number cell.node.state event (taken_by cell.come event)

-- its entry
abbrev pub entry_by : Cell → Event → Entry
entry_by cell event = record { stamp = stamp_of cell.node.state.clock (taken_by cell.come event); event = event }

-- its record in the log
abbrev pub logged_by : Cell → Event → Logged
logged_by cell event = record { entry = entry_by cell event; taken = taken_by cell.come event; sent = (stepped_by cell event).sends }

-- the cell after it: the node has stepped, the log has one record more, the message is off its in list, what was sent is behind what is still
-- to be given out, and what it did is behind what the others did
abbrev pub after_event : Cell → Event → Cell
after_event cell event = record {
  node = record cell.node { state = (stepped_by cell event).node };
  log = cell.log ++ logged_by cell event ∷ [];
  come = come_taken cell.come event;
  pending = cell.pending ++ (stepped_by cell event).sends;
  dids = cell.dids ++ (stepped_by cell event).did ∷ [];
}

-- an event that may happen has happened; or memory was refused, and all is as it was
abbrev pub Happens : Cell → Event → Cell → Result Stepped NoMemory → Type 0
Happens before event after (Ok (Did entry did)) = (entry ≡ entry_by before event) × (did ≡ (stepped_by before event).did) × (after ≡ after_event before event)
Happens before event after (Ok Idle) = ⊥
Happens before event after (Err refused) = after ≡ before

-- a step took the event that its number picks; or no main event may happen, the node is spent, and all is as it was; or memory was refused, and all is as it was
abbrev pub StepsCell : Cell → ℕ → Cell → Result Stepped NoMemory → Type 0
StepsCell before pick after (Ok (Did entry did)) =
    (picked_event before pick ≡ Some entry.event) × (entry ≡ entry_by before entry.event) × (did ≡ (stepped_by before entry.event).did) × (after ≡ after_event before entry.event)
StepsCell before pick after (Ok Idle) = (next_events before ≡ []) × IsSpent before.node.parameters before.node.state × (after ≡ before)
StepsCell before pick after (Err refused) = after ≡ before
