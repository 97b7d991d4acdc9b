-- What an event that happened changes of the rows of a machine.
use Rattle.std.specs.Prelude.{◌≡◌, ℕ, ◌<◌, Bool, true, false, cond, not, ◌&&◌, ◌||◌, ◌==◌, Option, is_some, List, length, slice_set, IsTrue}
use Rattle.alw_num.specs.Maps.{passes}
use Rattle.alw_num.specs.declared.node_sets.NodeSet.{NodeSet}
use Rattle.alw_num.specs.NodeSets.{has_node, nodes_of}
use Rattle.alw_num.specs.Weights.{digit, weigh}
use Rattle.alw_msg.specs.declared.messages.Msg.{Msg}
use Rattle.alw_msg.specs.Contents.{Content, ForMemory, ForCache, content, brings_line}
use Rattle.alw_msg.specs.declared.events.Event.{Event}
use Rattle.alw_msg.specs.declared.events.Event.TheVariants.{Deliver}
use Rattle.alw_msg.specs.Events.{node_of}
use Rattle.alw_msg.specs.Lists.{is_nonempty}
use Rattle.alw_image.specs.declared.parts.Parts.{Parts}
use Rattle.alw_image.specs.Images.{node_count}
use Rattle.alw_image.specs.Parameters.{Parameters}
use Rattle.alw_model.specs.declared.steps.Did.{Did}
use Rattle.alw_model.specs.declared.steps.Did.TheVariants.{Turn, Missed, Took, Packet, Handled, Evicted}
use Rattle.alw_model.specs.Contexts.{Slot}
use Rattle.alw_model.specs.NodeStates.{NodeState}
use Rattle.alw_model.specs.NodeSteps.{Stepped}
use Rattle.alw_model.specs.Machine.{MachineState, node_at, taken_by, state, is_enabled, has_halted, stepped_by, step}
use Rattle.law_order.specs.Orders.{EveryJournal, takes_from}
use Rattle.law_lines.specs.Links.{msgs_to}
use Rattle.alw_ready.specs.declared.changes.Happened.{Happened}
use Rattle.alw_ready.specs.declared.rows.Row.{Row}
use Rattle.alw_ready.specs.Rows.{instr_at, handle_at, delivery, row_at}
use Rattle.alw_ready.specs.Fits.{may_happen, is_in_time, RowFitsBut}

-- a message brings its line to a cache
abbrev pub brings : Content → Bool
brings (ForMemory said) = false
brings (ForCache said) = brings_line said

-- how many slots have a hold
abbrev pub hold_count : List Slot → ℕ
hold_count slots = weigh (λ slot. digit (is_some slot.hold)) slots

-- the number of a node's holds changes
abbrev pub changes_holds : NodeState → NodeState → Bool
changes_holds before after = not (hold_count after.slots == hold_count before.slots)

-- By what it did, the message that it took, and whether it changed the number of holds, an event may have changed what keeps other messages on their links to its node: an instruction ended a hold, a line came, or a line became Trans-In-Progress or ceased to be.
abbrev pub is_wide : Did → Option Msg → Bool → Bool
is_wide (Turn slot outcome) taken changes = changes
is_wide (Missed slot) taken changes = changes
is_wide Took taken changes = passes (λ msg. brings (content msg)) taken
is_wide Packet taken changes = true
is_wide (Handled kind state) taken changes = true
is_wide Evicted taken changes = false

-- a step of a node is wide
abbrev pub is_wide_step : NodeState → Option Msg → Stepped → Bool
is_wide_step node taken stepped = is_wide stepped.did taken (changes_holds node stepped.node)

-- an event of a machine is wide
abbrev pub is_wide_event : Parts → Parameters → MachineState → Event → Bool
is_wide_event parts parameters machine event = is_wide_step (node_at machine (node_of event)) (taken_by parts machine event) (stepped_by parts parameters machine event)

-- a node sent something to the link of these two nodes
abbrev pub is_fed : ℕ → List (ℕ × Msg) → ℕ → ℕ → Bool
is_fed sender sends from to = from == sender && is_nonempty (msgs_to to sends)

-- the same of the link that an event would take from
abbrev pub is_fed_for : ℕ → List (ℕ × Msg) → Event → Bool
is_fed_for sender sends (Deliver from to) = is_fed sender sends from.0 to.0
is_fed_for sender sends _ = false

-- a delivery is from a node of a number below this one
abbrev pub ComesFromBelow : ℕ → Event → Type 0
ComesFromBelow count (Deliver from to) = from.0 < count
ComesFromBelow count _ = Unit {0}

-- a row once the instruction, the handler and the deliveries from some senders were looked at again, with all other senders as they were
pub record RowIsRenewed (test : Event → Bool) (at : ℕ) (again : ℕ → Bool) (before after : Row) : Type 0 where
  pub instr : after.instr ≡ test (instr_at at)
  pub handle : after.handle ≡ test (handle_at at)
  pub senders : (from : ℕ) → has_node (nodes_of after.senders) from ≡ cond (again from) (test (delivery from at)) (has_node (nodes_of before.senders) from)

-- the row of an event's own node was looked at again, with those of its senders that the event may have changed; all other rows stay
pub record OwnRowIsRenewed (parts : Parts) (parameters : Parameters) (machine : MachineState) (happened : Happened) (before after : List Row) : Type 0 where
  pub own : Row
  pub rows_are : after ≡ slice_set before (node_of happened.event) own
  pub in_time : own.in_time ≡ is_in_time parameters machine (node_of happened.event)
  pub renewed : RowIsRenewed (may_happen parts parameters machine) (node_of happened.event) (λ from. happened.wide || takes_from happened.event from (node_of happened.event)) (row_at before (node_of happened.event)) own

-- a delivery from one node to another was looked at again; all else of the rows stays
pub record SenderIsLookedAt (test : Event → Bool) (from to : ℕ) (before after : List Row) : Type 0 where
  pub senders : NodeSet
  pub rows_are : after ≡ slice_set before to (record (row_at before to) { senders = senders })
  pub looked : (k : ℕ) → has_node (nodes_of senders) k ≡ cond (k == from) (test (delivery from to)) (has_node (nodes_of (row_at before to).senders) k)

-- there is a row for each node, and it fits, but for deliveries from a sender of messages that were sent just now
pub record RowsFitBut (parts : Parts) (parameters : Parameters) (machine : MachineState) (sender : ℕ) (sends : List (ℕ × Msg)) (rows : List Row) : Type 0 where
  pub counted : length rows ≡ node_count parts
  pub each : (at : ℕ) → at < node_count parts → RowFitsBut parts parameters machine at (λ from. is_fed sender sends from at) (row_at rows at)

-- a fact of every enabled event of a machine after a legal journal, with which it isn't that all contexts halt: of the image, the parameters, the machine, the event and the machine after it
abbrev pub EveryStep : (Parts → Parameters → MachineState → Event → MachineState → Type 0) → Type 0
EveryStep Fact = EveryJournal (λ parts parameters journal. (event : Event) → let machine = state parts parameters journal in
    IsTrue (is_enabled parts parameters machine event) → has_halted (step parts parameters machine event) ≡ has_halted machine → Fact parts parameters machine event (step parts parameters machine event))

-- what is told of an event of a machine is so: it is enabled, its sends and the machine after it are these, and where it isn't told, it isn't wide, and not every context halts with it
pub record EventIsTold (parts : Parts) (parameters : Parameters) (before after : MachineState) (happened : Happened) (sends : List (ℕ × Msg)) : Type 0 where
  pub enabled : IsTrue (is_enabled parts parameters before happened.event)
  pub sends_are : sends ≡ (stepped_by parts parameters before happened.event).sends
  pub after_is : after ≡ step parts parameters before happened.event
  pub narrow : happened.wide ≡ false → is_wide_event parts parameters before happened.event ≡ false
  pub goes_on : happened.halted ≡ false → has_halted after ≡ has_halted before
