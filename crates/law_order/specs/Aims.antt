-- A machine names nodes and lines that exist.
use Rattle.std.specs.Prelude.{◌≡◌, ℕ, ◌*◌, ◌<◌, Some, length}
use Rattle.std.specs.List.{AllByRecursion}
use Rattle.alw_num.specs.Maps.{value_at}
use Rattle.alw_msg.specs.declared.messages.Msg.{Msg}
use Rattle.alw_image.specs.declared.parts.Parts.{Parts}
use Rattle.alw_image.specs.Images.{node_count, line_count}
use Rattle.alw_model.specs.Caches.{Copy, Cache}
use Rattle.alw_model.specs.NodeStates.{NodeState}
use Rattle.alw_model.specs.Machine.{MachineState, node_at}
use Rattle.law_entry.specs.Entries.{PointsBelow}

-- each copy in a cache is of a line that exists
abbrev pub CachesExist : Parts → Cache → Type 0
CachesExist parts cache = (at : ℕ) → (copy : Copy) → value_at cache at ≡ Some copy → copy.line < line_count parts

-- the pointers of a node's home lines and the senders of its packets are nodes, and the lines that it has in its cache exist
pub record NodeAims (parts : Parts) (node : NodeState) : Type 0 where
  pub homes : AllByRecursion (PointsBelow (node_count parts)) node.homes
  pub cache : CachesExist parts node.cache
  pub packets : AllByRecursion (λ (packet : Msg). packet.src.0 < node_count parts) node.packets

-- a machine has the image's nodes and links, and its nodes name nodes and lines that exist
pub record IsAimed (parts : Parts) (s : MachineState) : Type 0 where
  pub nodes : length s.nodes ≡ node_count parts
  pub links : length s.links ≡ node_count parts * node_count parts
  pub each : (n : ℕ) → n < node_count parts → NodeAims parts (node_at s n)
