-- What remains to be done at a machine: contexts that haven't halted, those of them that have trapped, and packets that wait for their handler.
use Rattle.std.specs.Prelude.{ℕ, ◌+◌, ◌-◌, ◌<◌, ◌≤◌, ◌^◌, not, List, length}
use Rattle.alw_num.specs.Weights.{digit, weigh}
use Rattle.sparc_table.specs.declared.outcomes.Outcome.TheVariants.{Halt, Trap}
use Rattle.alw_msg.specs.declared.events.Event.{Event}
use Rattle.alw_msg.specs.declared.events.Event.TheVariants.{Handle}
use Rattle.alw_msg.specs.Statuses.{is_halted, has_trapped}
use Rattle.alw_model.specs.declared.steps.Did.{Did}
use Rattle.alw_model.specs.declared.steps.Did.TheVariants.{Turn, Packet}
use Rattle.alw_model.specs.NodeStates.{NodeState}
use Rattle.alw_tally.specs.declared.remains.Remains.{Remains}

-- what remains at one node
abbrev pub live_in : NodeState → ℕ
live_in node = weigh (λ slot. digit (not (is_halted slot.status))) node.slots

abbrev pub trapped_in : NodeState → ℕ
trapped_in node = weigh (λ slot. digit (has_trapped slot.status)) node.slots

abbrev pub packets_in : NodeState → ℕ
packets_in node = length node.packets

-- what remains at all nodes
abbrev pub remains_of : List NodeState → Remains
remains_of nodes = record { live = weigh live_in nodes; trapped = weigh trapped_in nodes; packets = weigh packets_in nodes }

-- what remains once a node has done this: a turn that halts or traps its context, or a packet more
abbrev pub left_by : Remains → Did → Remains
left_by all (Turn slot Halt) = record all { live = all.live - 1 }
left_by all (Turn slot (Trap tt)) = record all { trapped = all.trapped + 1 }
left_by all Packet = record all { packets = all.packets + 1 }
left_by all _ = all

-- what remains after an event, by what it did: the handler takes a packet
abbrev pub remains_after : Remains → Event → Did → Remains
remains_after all (Handle node) did = record all { packets = all.packets - 1 }
remains_after all _ did = left_by all did

-- the numbers are there to be taken from, and fit 32 bits
abbrev pub MayLeave : Remains → Did → Type 0
MayLeave all (Turn slot Halt) = 1 ≤ all.live
MayLeave all (Turn slot (Trap tt)) = all.trapped + 1 < 2 ^ 32
MayLeave all Packet = all.packets + 1 < 2 ^ 32
MayLeave all _ = Unit {0}

abbrev pub MayFollow : Remains → Event → Did → Type 0
MayFollow all (Handle node) did = 1 ≤ all.packets
MayFollow all _ did = MayLeave all did

-- there is room for one trapped context, and for one packet, more
pub record AreFew (all : Remains) : Type 0 where
  pub trapped : all.trapped + 1 < 2 ^ 32
  pub packets : all.packets + 1 < 2 ^ 32
