-- What stands of nodes, links, caches, packets and entries while a machine runs, as far as its lines need it.
use Rattle.std.specs.Prelude.{◌≡◌, ℕ, ◌*◌, ◌<◌, Some, length, IsTrue}
use Rattle.std.specs.List.{AllByRecursion}
use Rattle.alw_num.specs.Weights.{digit}
use Rattle.alw_msg.specs.declared.messages.Msg.{Msg}
use Rattle.alw_image.specs.declared.parts.Parts.{Parts}
use Rattle.alw_image.specs.Images.{node_count, line_count}
use Rattle.alw_image.specs.Parameters.{Parameters}
use Rattle.alw_num.specs.Maps.{value_at}
use Rattle.alw_model.specs.LimitLess.{is_in_progress}
use Rattle.alw_model.specs.Caches.{Copy, Cache, set_of}
use Rattle.alw_msg.specs.Contents.{content, is_to_memory}
use Rattle.alw_model.specs.Messages.{home_node}
use Rattle.alw_model.specs.NodeStates.{NodeState, home_at}
use Rattle.alw_model.specs.Machine.{MachineState, node_at}
use Rattle.alw_model.specs.Lines.{ups}
use Rattle.law_entry.specs.Entries.{EntryIsSound}

-- each copy in a cache is of a line that exists, and stands in its line's set
abbrev pub IsCache : Parts → Parameters → Cache → Type 0
IsCache parts parameters cache = (set : ℕ) → (copy : Copy) → value_at cache set ≡ Some copy → (copy.line < line_count parts) × (set_of parameters.sets copy.line ≡ set)

-- a packet is a message to memory of a node that exists, about a line of this home
pub record IsPacket (parts : Parts) (number : ℕ) (packet : Msg) : Type 0 where
  pub to_memory : IsTrue (is_to_memory (content packet))
  pub source : packet.src.0 < node_count parts
  pub line : packet.line.0 < line_count parts
  pub home : home_node parts packet.line.0 ≡ number

-- a node: its home lines are those of the image, its cache and its packets are as above, the entries of its home lines are sound, and a line has a pending packet exactly in Trans-In-Progress, and then one
pub record NodeStands (parts : Parts) (parameters : Parameters) (number : ℕ) (node : NodeState) : Type 0 where
  pub homes : length node.homes ≡ parts.per_node
  pub caches : IsCache parts parameters node.cache
  pub packets : AllByRecursion (IsPacket parts number) node.packets
  pub entries : (line : ℕ) → line < line_count parts → home_node parts line ≡ number → EntryIsSound parameters.pointers (home_at parts node line)
  pub pending : (line : ℕ) → line < line_count parts → home_node parts line ≡ number → length (ups line node.packets) ≡ digit (is_in_progress (home_at parts node line).meta)

-- a machine has the image's nodes and links, and each node stands
pub record IsStanding (parts : Parts) (parameters : Parameters) (machine : MachineState) : Type 0 where
  pub nodes : length machine.nodes ≡ node_count parts
  pub links : length machine.links ≡ node_count parts * node_count parts
  pub each : (n : ℕ) → n < node_count parts → NodeStands parts parameters n (node_at machine n)
