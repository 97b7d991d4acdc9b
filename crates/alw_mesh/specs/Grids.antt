-- The nodes of a machine and the links between them, as a machine's state.
use Rattle.std.specs.Prelude.{◌≡◌, ℕ, ◌<◌, ◌≤◌, ◌/◌, ◌%◌, Bool, true, false, length}
use Rattle.alw_num.specs.declared.addresses.NodeNo.{NodeNo}
use Rattle.alw_msg.specs.declared.events.Event.{Event}
use Rattle.alw_msg.specs.declared.events.Entry.{Entry}
use Rattle.alw_msg.specs.declared.events.Event.TheVariants.{Instr}
use Rattle.alw_msg.specs.Events.{node_of}
use Rattle.alw_msg.specs.Sending.{Sending}
use Rattle.alw_image.specs.declared.parts.Parts.{Parts}
use Rattle.alw_image.specs.Images.{node_count}
use Rattle.alw_image.specs.Parameters.{Parameters}
use Rattle.sparc_table.specs.declared.outcomes.Outcome.TheVariants.{Done}
use Rattle.alw_model.specs.declared.steps.Did.{Did}
use Rattle.alw_model.specs.declared.steps.Did.TheVariants.{Turn}
use Rattle.alw_model.specs.Machine.{MachineState, machine_start, node_at, taken_by, stepped_by, step}
use Rattle.alw_model.specs.Counts.{uses_hold}
use Rattle.alw_ready.specs.Changes.{changes_holds}
use Rattle.alw_mesh.specs.declared.stepping.Happening.{Happening}
use Rattle.alw_tally.specs.Moments.{HasPc}
use Rattle.alw_node.specs.Nodes.{Whole}
use Rattle.alw_node.specs.Shares.{share_of}

-- an image, parameters and a state, and the number of messages more that the links have room for
pub record Grid : Type 0 where
  pub image : Parts
  pub parameters : Parameters
  pub machine : MachineState
  pub room : ℕ

abbrev pub grid_start : Parts → Parameters → Grid
grid_start image parameters = record { image = image; parameters = parameters; machine = machine_start image; room = 0 }

-- a node is the one with this number: it has the image's share, the parameters, and the state
pub record IsNodeAt (grid : Grid) (n : ℕ) (whole : Whole) : Type 0 where
  pub number : whole.number ≡ n
  pub share : whole.parts ≡ share_of grid.image n
  pub parameters : whole.parameters ≡ grid.parameters
  pub state : whole.state ≡ node_at grid.machine n

-- a node and a slot are those of a context
pub record IsSlotOf (grid : Grid) (context : ℕ) (whole : Whole) (slot : ℕ) : Type 0 where
  pub node : IsNodeAt grid (context / grid.image.contexts) whole
  pub slot_is : slot ≡ context % grid.image.contexts
  pub within : slot < length whole.state.slots

-- an event, which did this, was a quiet turn: it was Done, and ended no hold
pub record IsQuietTurn (event : Event) (did : Did) (changes : Bool) : Type 0 where
  pub at : NodeNo
  pub slot : ℕ
  pub event_is : event ≡ Instr at
  pub did_is : did ≡ Turn slot Done
  pub stays : changes ≡ false

-- the event of an entry has happened: it has left the machine that it leaves, and what is said of it, with its sends, is the event of a run
pub record Happens (before after : Grid) (entry : Entry) (sent : Sending) (happening : Happening) : Type 0 where
  pub image : after.image ≡ before.image
  pub parameters : after.parameters ≡ before.parameters
  pub machine : after.machine ≡ step before.image before.parameters before.machine entry.event
  pub room : sent.room ≡ node_count before.image
  pub few : length sent.messages ≤ node_count before.image
  pub entry_is : happening.moment.entry ≡ entry
  pub did : happening.moment.did ≡ (stepped_by before.image before.parameters before.machine entry.event).did
  pub taken : happening.moment.taken ≡ taken_by before.image before.machine entry.event
  pub used : happening.used ≡ uses_hold (node_at before.machine (node_of entry.event)) (stepped_by before.image before.parameters before.machine entry.event).did
  pub pc : HasPc (node_at before.machine (node_of entry.event)) happening.pc (stepped_by before.image before.parameters before.machine entry.event).did
  pub sends : sent.messages ≡ (stepped_by before.image before.parameters before.machine entry.event).sends
  pub quiet : happening.moment.quiet ≡ true → IsQuietTurn entry.event happening.moment.did happening.changes_holds
  pub holds : happening.changes_holds ≡ changes_holds (node_at before.machine (node_of entry.event)) (stepped_by before.image before.parameters before.machine entry.event).node
