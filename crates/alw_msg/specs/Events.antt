-- Words on the events of the machine (after Lamport 1978).
use Rattle.std.specs.Prelude.{ℕ, Bool, true, false}
use Rattle.alw_msg.specs.declared.events.Event.{Event}
use Rattle.alw_msg.specs.declared.events.Event.TheVariants.{Instr, Handle, Deliver, Evict}

-- the node that an event is of
abbrev pub node_of : Event → ℕ
node_of (Instr node) = node.0
node_of (Handle node) = node.0
node_of (Deliver from to) = to.0
node_of (Evict node set) = node.0

-- the event is an eviction
abbrev pub is_evict : Event → Bool
is_evict (Evict node set) = true
is_evict _ = false
