-- A node: its number, its share of the image, its parameters and its state.
use Rattle.std.specs.Prelude.{◌≡◌, ℕ, ◌*◌, ◌<◌, ◌≤◌, ◌&&◌, nat_lt, Bool, Option, Some, None, length}
use Rattle.alw_msg.specs.declared.events.Event.{Event}
use Rattle.alw_msg.specs.declared.events.Event.TheVariants.{Deliver}
use Rattle.alw_msg.specs.declared.messages.Msg.{Msg}
use Rattle.alw_msg.specs.Sending.{Sending}
use Rattle.alw_image.specs.declared.parts.Parts.{Parts}
use Rattle.alw_image.specs.Images.{node_count}
use Rattle.alw_image.specs.Parameters.{Parameters}
use Rattle.alw_model.specs.NodeStates.{NodeState, node_start, may_deliver}
use Rattle.alw_model.specs.declared.steps.Did.{Did}
use Rattle.alw_model.specs.NodeSteps.{Stepped}
use Rattle.alw_model.specs.Sides.{Processor, Memory}
use Rattle.alw_node.specs.Shares.{share_of}

-- a node
pub record Whole : Type 0 where
  pub number : ℕ
  pub parts : Parts
  pub parameters : Parameters
  pub state : NodeState

-- a node at the start of an image
abbrev pub whole_start : Parts → Parameters → ℕ → Whole
whole_start parts parameters number = record { number = number; parts = share_of parts number; parameters = parameters; state = node_start parts number }

-- the node that these make up; its sizes are the processor side's, which are the share's
abbrev pub whole_of : Parts → Parameters → Processor → Memory → ℕ → Whole
whole_of share parameters p m clock = record {
  number = p.number;
  parts = record share { width = p.width; height = p.height; per_node = p.per_node };
  parameters = parameters;
  state = record { slots = p.slots; current = p.current; cache = p.cache; transactions = p.transactions; homes = m.homes; packets = m.packets; clock = clock };
}

-- the two sides are of one node, which has this share, with a slot for each context, and these parameters
pub record SidesAreOfOneNode (share : Parts) (parameters : Parameters) (p : Processor) (m : Memory) : Type 0 where
  pub width : p.width ≡ share.width
  pub height : p.height ≡ share.height
  pub lines : p.per_node ≡ share.per_node
  pub number : m.number ≡ p.number
  pub nodes : m.nodes ≡ p.width * p.height
  pub per_node : m.per_node ≡ p.per_node
  pub pointers : m.pointers ≡ parameters.pointers
  pub sets : p.sets ≡ parameters.sets
  pub slots : length p.slots ≡ share.contexts

-- what holds of every node: it exists, its sizes are those of an image, and it has a slot for each of its contexts and an entry for each home line
pub record IsNode (node : Whole) : Type 0 where
  pub number : node.number < node_count node.parts
  pub width : node.parts.width ≤ 16
  pub height : node.parts.height ≤ 16
  pub per_node : (1 ≤ node.parts.per_node) × (node.parts.per_node ≤ 4096)
  pub contexts : node.parts.contexts ≤ 4
  pub slots : length node.state.slots ≡ node.parts.contexts
  pub homes : length node.state.homes ≡ node.parts.per_node

-- what an event has left of a node and of the list of its sends, which is begun at the node's new clock, and what it did, are this step's
pub record IsNodeStep (before after : Whole) (sent sent' : Sending) (did : Did) (step : Stepped) : Type 0 where
  pub node : after ≡ record before { state = step.node }
  pub sends : sent' ≡ record { room = sent.room; src = before.number; stamp = step.node.clock; messages = step.sends }
  pub outcome : did ≡ step.did

-- a message has a stamp below the greatest, if there is one
abbrev pub FitsStamp : Option Msg → Type 0
FitsStamp None = Unit {0}
FitsStamp (Some msg) = msg.stamp < 4294967295

-- only a delivery takes a message; one that is given with another event is let be, and its stamp isn't the greatest
abbrev pub MessageIsGiven : Event → Option Msg → Type 0
MessageIsGiven (Deliver from to) taken = Unit {0}
MessageIsGiven event taken = FitsStamp taken

-- a message at the head of the link from a node can be delivered
abbrev pub may_take_from : Whole → ℕ → Msg → Bool
may_take_from node from msg = nat_lt from (node_count node.parts) && may_deliver node.parts node.parameters from node.number node.state msg
