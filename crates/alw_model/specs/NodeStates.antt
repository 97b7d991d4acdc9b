-- The state of a node: its contexts, its cache and transactions, the entries of its home lines, its packet queue and its clock (Lamport 1978).
use Rattle.std.specs.Prelude.{ℕ, ◌+◌, ◌-◌, ◌*◌, ◌%◌, ◌^◌, Bool, true, not, ◌&&◌, ◌==◌, nat_lt, max, Option, Some, None, is_some, List, [], map}
use Rattle.std.specs.Prelude.{slice_set}
use Rattle.std.specs.List.{range_with_len}
use Rattle.alw_msg.specs.declared.messages.Msg.{Msg}
use Rattle.alw_msg.specs.declared.events.Event.{Event}
use Rattle.alw_msg.specs.declared.events.Event.TheVariants.{Instr, Handle, Deliver, Evict}
use Rattle.alw_msg.specs.Contents.{ToCache, INV, BUSY, Content, ForMemory, ForCache, content}
use Rattle.alw_msg.specs.Events.{node_of}
use Rattle.alw_msg.specs.Lists.{is_nonempty}
use Rattle.alw_image.specs.declared.parts.Parts.{Parts}
use Rattle.alw_image.specs.Images.{node_count, body_of, is_always}
use Rattle.alw_image.specs.Parameters.{Parameters}
use Rattle.alw_num.specs.Maps.{passes, empty_map, value_at}
use Rattle.alw_model.specs.LimitLess.{Directory, directory_start, is_in_progress}
use Rattle.alw_model.specs.Caches.{Cache, Transactions, replaced}
use Rattle.alw_model.specs.Contexts.{Slot, slots_start, running, is_held}
use Rattle.alw_model.specs.Messages.{is_fit}
use Rattle.alw_model.specs.Sides.{Processor, Memory, entry_at}

-- a node
pub record NodeState : Type 0 where
  pub slots : List Slot
  pub current : ℕ
  pub cache : Cache
  pub transactions : Transactions
  pub homes : List Directory
  pub packets : List Msg
  pub clock : ℕ

-- its processor side, and its memory side
abbrev pub processor_of : Parts → Parameters → ℕ → NodeState → Processor
processor_of parts parameters number node = record {
  number = number;
  width = parts.width;
  height = parts.height;
  per_node = parts.per_node;
  sets = parameters.sets;
  slots = node.slots;
  current = node.current;
  cache = node.cache;
  transactions = node.transactions;
}

abbrev pub memory_of : Parts → Parameters → ℕ → NodeState → Memory
memory_of parts parameters number node =
    record { number = number; nodes = node_count parts; per_node = parts.per_node; pointers = parameters.pointers; homes = node.homes; packets = node.packets }

-- the entries of a node's home lines at the start
abbrev pub homes_start : Parts → ℕ → List Directory
homes_start parts node = map (λ line. directory_start (body_of parts line) (is_always parts line)) (range_with_len (node * parts.per_node) parts.per_node)

-- a node at the start
abbrev pub node_start : Parts → ℕ → NodeState
node_start parts node = record { slots = slots_start parts node; current = 0; cache = empty_map; transactions = empty_map; homes = homes_start parts node; packets = []; clock = 0 }

-- the place of a line among its home's lines
abbrev pub place_of : Parts → ℕ → ℕ
place_of parts line = line % parts.per_node

-- a home's entry of one of its lines
abbrev pub home_at : Parts → NodeState → ℕ → Directory
home_at parts node line = entry_at node.homes (place_of parts line)

-- the node with another entry of a home line
abbrev pub with_home : Parts → NodeState → ℕ → Directory → NodeState
with_home parts node line entry = record node { homes = slice_set node.homes (place_of parts line) entry }

-- the stamp of an event: 1 plus the greater of its node's clock and the stamp of the message that it takes
abbrev pub stamp_of : ℕ → Option Msg → ℕ
stamp_of clock None = clock + 1
stamp_of clock (Some msg) = max clock msg.stamp + 1

-- what keeps a message to a cache on its link: an INV for a held line, and an RDATA or WDATA whose set holds another line that is held
abbrev pub may_reach_cache : ℕ → List Slot → Cache → ℕ → ToCache → Bool
may_reach_cache sets slots cache line INV = not (is_held slots line)
may_reach_cache sets slots cache line BUSY = true
may_reach_cache sets slots cache line _ = not (passes (λ copy. is_held slots copy.line) (replaced sets cache line))

-- what keeps a message on its link: one to memory waits while its line is Trans-In-Progress
abbrev pub may_reach : Parts → Parameters → NodeState → ℕ → Content → Bool
may_reach parts parameters node line (ForMemory said) = not (is_in_progress (home_at parts node line).meta)
may_reach parts parameters node line (ForCache said) = may_reach_cache parameters.sets node.slots node.cache line said

-- the head of the link of two nodes can be delivered: it is fit, and nothing keeps it
abbrev pub may_deliver : Parts → Parameters → ℕ → ℕ → NodeState → Msg → Bool
may_deliver parts parameters from to node msg = is_fit parts from to msg && may_reach parts parameters node msg.line.0 (content msg)

-- what an event wants of the node that it is of, and of the head of the link that it names: a Ready slot, a packet, a head that can be delivered, or a set with a copy that isn't held
abbrev pub may : Parts → Parameters → NodeState → Event → Option Msg → Bool
may parts parameters node (Instr at) head = is_some (running node.slots node.current)
may parts parameters node (Handle at) head = is_nonempty node.packets
may parts parameters node (Deliver from to) head = nat_lt from.0 (node_count parts) && passes (may_deliver parts parameters from.0 to.0 node) head
may parts parameters node (Evict at set) head = nat_lt set parameters.sets && passes (λ copy. not (is_held node.slots copy.line)) (value_at node.cache set)

-- an event is enabled at a node of this number, the limit aside: it is of that node, which exists and whose clock isn't the greatest
abbrev pub is_enabled_at : Parts → Parameters → ℕ → NodeState → Event → Option Msg → Bool
is_enabled_at parts parameters number node event head =
    node_of event == number && (nat_lt number (node_count parts) && (nat_lt node.clock (2 ^ 32 - 1) && may parts parameters node event head))
