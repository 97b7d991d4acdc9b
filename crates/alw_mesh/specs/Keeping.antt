-- What a machine keeps beside its image, its parameters and its journal, and what holds of it.
use Rattle.std.specs.Prelude.{◌≡◌, ℕ, ◌<◌, ◌≤◌, Bool, Option, None, List, [], map, length, slice_index_or, slice_set}
use Rattle.alw_msg.specs.declared.messages.Msg.{Msg}
use Rattle.alw_msg.specs.declared.events.Event.{Event}
use Rattle.alw_msg.specs.declared.events.Event.TheVariants.{Deliver}
use Rattle.alw_msg.specs.declared.events.Entry.{Entry}
use Rattle.alw_msg.specs.Lists.{front}
use Rattle.alw_msg.specs.Sending.{Sending}
use Rattle.alw_image.specs.declared.parts.Parts.{Parts}
use Rattle.alw_image.specs.Images.{IsImage, node_count}
use Rattle.alw_image.specs.Parameters.{Parameters}
use Rattle.sparc_table.specs.declared.outcomes.Outcome.TheVariants.{Trap}
use Rattle.alw_msg.specs.declared.contexts.Status.{Status}
use Rattle.alw_msg.specs.declared.contexts.Status.TheVariants.{Trapped}
use Rattle.alw_model.specs.declared.steps.Did.{Did}
use Rattle.alw_model.specs.declared.steps.Did.TheVariants.{Turn}
use Rattle.alw_model.specs.Contexts.{Slot, slot_at}
use Rattle.alw_model.specs.Runs.{moments}
use Rattle.alw_model.specs.NodeStates.{is_enabled_at}
use Rattle.alw_model.specs.NodeSteps.{Stepped, node_step}
use Rattle.alw_model.specs.Machine.{MachineState, no_node, state}
use Rattle.law_order.specs.Aims.{IsAimed}
use Rattle.alw_links.specs.Traffic.{Traffic, link_in, after_take}
use Rattle.alw_tally.specs.declared.remains.Remains.{Remains}
use Rattle.alw_tally.specs.Told.{told_of}
use Rattle.alw_tally.specs.Tallies.{Tallied}
use Rattle.alw_tally.specs.Remaining.{remains_of}
use Rattle.alw_ready.specs.declared.rows.Row.{Row}
use Rattle.alw_ready.specs.Fits.{RowsFit}
use Rattle.alw_ready.specs.Changes.{changes_holds}
use Rattle.alw_node.specs.Nodes.{Whole}
use Rattle.alw_node.specs.Shares.{share_of}
use Rattle.alw_mesh.specs.declared.stepping.Acted.{Acted}
use Rattle.alw_mesh.specs.Histories.{IsRun, last_sends}
use Rattle.alw_mesh.specs.Grids.{Grid}

-- ---- nodes and links

-- a machine of these nodes and links
abbrev pub machine_of : List Whole → List (List Msg) → MachineState
machine_of nodes links = record { nodes = map (λ (whole : Whole). whole.state) nodes; links = links }

-- a node of nothing, for a number that no node has
abbrev pub no_whole : Whole
no_whole = record {
  number = 0;
  parts = record { width = 0; height = 0; contexts = 0; per_node = 0; code = []; bodies = []; starts = []; always = [] };
  parameters = record { pointers = 0; sets = 0; limit = 0; evict = 0 };
  state = no_node;
}

abbrev pub whole_in : List Whole → ℕ → Whole
whole_in nodes n = slice_index_or nodes n no_whole

-- a node of an image and parameters, of this number
pub record NodeIsOf (image : Parts) (parameters : Parameters) (n : ℕ) (whole : Whole) : Type 0 where
  pub number : whole.number ≡ n
  pub share : whole.parts ≡ share_of image n
  pub parameters_are : whole.parameters ≡ parameters

-- all nodes of an image
pub record AreNodes (image : Parts) (parameters : Parameters) (nodes : List Whole) : Type 0 where
  pub counted : length nodes ≡ node_count image
  pub each : (n : ℕ) → n < node_count image → NodeIsOf image parameters n (whole_in nodes n)

-- nodes and links of one image, with what remains to be done at the nodes
pub record IsGrid (image : Parts) (parameters : Parameters) (nodes : List Whole) (traffic : Traffic) (remains : Remains) : Type 0 where
  pub image_is : IsImage image
  pub nodes_are : AreNodes image parameters nodes
  pub links_are : traffic.nodes ≡ node_count image
  pub aimed : IsAimed image (machine_of nodes traffic.links)
  pub remains_are : remains ≡ remains_of (machine_of nodes traffic.links).nodes

-- the message that an event takes off its link
abbrev pub taken_from : Traffic → Event → Option Msg
taken_from traffic (Deliver from to) = front (link_in traffic from.0 to.0)
taken_from traffic _ = None

-- the links once it has been taken
abbrev pub after_taking : Traffic → Event → Traffic
after_taking traffic (Deliver from to) = after_take traffic from.0 to.0
after_taking traffic _ = traffic

-- the nodes that an event names exist
abbrev pub NodesAreWithin : ℕ → Event → Type 0
NodesAreWithin nodes (Deliver from to) = (from.0 < nodes) × (to.0 < nodes)
NodesAreWithin nodes _ = Unit {0}

-- the PC of a slot that a trapping turn has left trapped
abbrev pub PcOf : ℕ → Status → Type 0
PcOf pc (Trapped at tt) = pc ≡ at
PcOf pc _ = Unit {0}

abbrev pub HasTrapPc : List Slot → ℕ → Did → Type 0
HasTrapPc slots pc (Turn slot (Trap tt)) = slot < length slots → PcOf pc (slot_at slots slot).status
HasTrapPc slots pc _ = Unit {0}

-- a node may take this event, with this message
abbrev pub may_act : Whole → Event → Option Msg → Bool
may_act whole event taken = is_enabled_at whole.parts whole.parameters whole.number whole.state event taken

-- what such an event does
abbrev pub acted_by : Whole → Event → Option Msg → Stepped
acted_by whole event taken = node_step whole.parts whole.parameters whole.number whole.state event taken

-- one of these nodes has taken an event
pub record NodeActs (nodes nodes' : List Whole) (at : ℕ) (event : Event) (taken : Option Msg) (sent sent' : Sending) (acted : Acted) : Type 0 where
  pub nodes_are : nodes' ≡ slice_set nodes at (record (whole_in nodes at) { state = (acted_by (whole_in nodes at) event taken).node })
  pub room : sent'.room ≡ sent.room
  pub few : length sent'.messages ≤ sent.room
  pub sends : sent'.messages ≡ (acted_by (whole_in nodes at) event taken).sends
  pub did : acted.did ≡ (acted_by (whole_in nodes at) event taken).did
  pub holds : acted.changes_holds ≡ changes_holds (whole_in nodes at).state (acted_by (whole_in nodes at) event taken).node

-- ---- the machine

-- what a machine keeps is of its journal
pub record IsMachine (grid : Grid) (journal : List Entry) (joined : ℕ) (sent : Sending) (tally : Tallied) (ready : List Row) : Type 0 where
  pub run : IsRun (record { image = grid.image; parameters = grid.parameters; journal = journal; joined = joined })
  pub state_is : grid.machine ≡ state grid.image grid.parameters journal
  pub room : sent.room ≡ node_count grid.image
  pub sends : sent.messages ≡ last_sends (record { image = grid.image; parameters = grid.parameters; journal = journal; joined = joined })
  pub rows : RowsFit grid.image grid.parameters grid.machine ready
  pub told : tally.told ≡ told_of grid.image (moments grid.image grid.parameters journal)
