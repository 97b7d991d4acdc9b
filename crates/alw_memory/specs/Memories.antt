-- What holds of a node's memory side.
use Rattle.std.specs.Prelude.{◌≡◌, ℕ, ◌+◌, ◌*◌, ◌/◌, ◌<◌, ◌≤◌, true, ◌==◌, List, [], length}
use Rattle.std.specs.List.{AllByRecursion}
use Rattle.alw_num.specs.Weights.{digit, weigh}
use Rattle.alw_msg.specs.Kinds.{to_memory}
use Rattle.alw_msg.specs.Sending.{Sending}
use Rattle.alw_msg.specs.declared.messages.Msg.{Msg}
use Rattle.alw_model.specs.LimitLess.{Directory, is_in_progress}
use Rattle.alw_model.specs.Sides.{Memory, entry_at}
use Rattle.law_entry.specs.Entries.{EntryIsSound, PointsBelow}

-- an entry is sound, and points at nodes that exist
pub record Stands (most nodes : ℕ) (d : Directory) : Type 0 where
  pub sound : EntryIsSound most d
  pub points : PointsBelow nodes d

-- a packet is a message to memory of a node that exists, for a line of this home
pub record IsPacket (nodes per_node number : ℕ) (packet : Msg) : Type 0 where
  pub to_memory : to_memory packet.kind ≡ true
  pub from : packet.src.0 < nodes
  pub home : packet.line.0 / per_node ≡ number

-- how many packets wait for a line
abbrev pub waiting_on : ℕ → List Msg → ℕ
waiting_on line packets = weigh (λ (packet : Msg). digit (packet.line.0 == line)) packets

-- an entry in Trans-In-Progress counts one
abbrev pub progress_of : Directory → ℕ
progress_of d = digit (is_in_progress d.meta)

-- what holds of every memory side: its sizes, its entries, and one packet for each of its lines in Trans-In-Progress and no other
pub record IsMemory (m : Memory) : Type 0 where
  pub number : m.number < m.nodes
  pub nodes : m.nodes ≤ 256
  pub per_node : (1 ≤ m.per_node) × (m.per_node ≤ 4096)
  pub pointers : 1 ≤ m.pointers
  pub homes : length m.homes ≡ m.per_node
  pub entries : (place : ℕ) → Stands m.pointers m.nodes (entry_at m.homes place)
  pub packets : AllByRecursion (IsPacket m.nodes m.per_node m.number) m.packets
  pub pending : (place : ℕ) → place < m.per_node → waiting_on (m.number * m.per_node + place) m.packets ≡ progress_of (entry_at m.homes place)
  pub counted : length m.packets ≡ weigh progress_of m.homes

-- the sends of an event are begun by this node, and empty, and there is room for one to each node
pub record SendsAreBegun (number nodes : ℕ) (sending : Sending) : Type 0 where
  pub by : sending.src ≡ number
  pub empty : sending.messages ≡ []
  pub room : nodes ≤ sending.room
