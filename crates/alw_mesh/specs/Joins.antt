-- A machine that is joined from a journal, from its nodes and links, and from what it tells.
use Rattle.std.specs.Prelude.{◌≡◌, List, map}
use Rattle.alw_msg.specs.declared.events.Entry.{Entry}
use Rattle.alw_image.specs.declared.parts.Parts.{Parts}
use Rattle.alw_image.specs.Images.{node_count}
use Rattle.alw_image.specs.Parameters.{Parameters}
use Rattle.alw_model.specs.NodeStates.{NodeState}
use Rattle.alw_model.specs.Machine.{MachineState, state, IsLegal}
use Rattle.alw_model.specs.Runs.{moments, turns_of, prints_of}
use Rattle.alw_model.specs.Counts.{counts_of}
use Rattle.alw_tally.specs.Told.{Told, told_of}
use Rattle.alw_node.specs.Nodes.{Whole}
use Rattle.alw_mesh.specs.Histories.{IsRun, joined_of}
use Rattle.alw_mesh.specs.Grids.{Grid}
use Rattle.alw_mesh.specs.Keeping.{machine_of, AreNodes}
use Rattle.alw_mesh.specs.declared.joins.JoinedParts.{JoinedParts}

-- the states of some nodes
abbrev pub states_of : List Whole → List NodeState
states_of nodes = map (λ (whole : Whole). whole.state) nodes

-- parts are those of a legal journal: its state's nodes and links, and what it tells
pub record AreOfJournal (image : Parts) (parameters : Parameters) (parts : JoinedParts) : Type 0 where
  pub legal : IsLegal image parameters parts.journal
  pub nodes_are : AreNodes image parameters parts.nodes
  pub counted : parts.links.nodes ≡ node_count image
  pub state_is : machine_of parts.nodes parts.links.links ≡ state image parameters parts.journal
  pub turns_are : parts.turns ≡ turns_of image parameters parts.journal
  pub prints_are : parts.prints ≡ prints_of image parameters parts.journal
  pub counts_are : parts.counts ≡ counts_of image (moments image parameters parts.journal)

-- nodes and links are those of an image under parameters, in this state
pub record IsGridOf (image : Parts) (parameters : Parameters) (machine : MachineState) (grid : Grid) : Type 0 where
  pub image_is : grid.image ≡ image
  pub parameters_are : grid.parameters ≡ parameters
  pub machine_is : grid.machine ≡ machine

-- nodes and links in the state of a journal, and what it tells
pub record PartsAreJoined (grid : Grid) (journal : List Entry) (told : Told) : Type 0 where
  pub run : IsRun (joined_of grid.image grid.parameters journal)
  pub state_is : grid.machine ≡ state grid.image grid.parameters journal
  pub told_is : told ≡ told_of grid.image (moments grid.image grid.parameters journal)
