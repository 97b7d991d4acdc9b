-- The machine: nodes and links that are first in, first out; which events are enabled, what one does, and which journals are legal (events and their order after Lamport 1978).
use Rattle.std.specs.Prelude.{◌≡◌, ℕ, ◌+◌, ◌*◌, Bool, true, cond, not, ◌&&◌, ◌||◌, ◌==◌, nat_le, Option, Some, None, List, [], ◌∷◌, ◌++◌, map, replicate, flat_map, slice_index_or, slice_set, IsTrue}
use Rattle.std.specs.List.{list_any, list_all, range_with_len}
use Rattle.alw_msg.specs.declared.messages.Msg.{Msg}
use Rattle.alw_msg.specs.declared.events.Event.{Event}
use Rattle.alw_msg.specs.declared.events.Event.TheVariants.{Instr, Handle, Deliver}
use Rattle.alw_msg.specs.declared.events.Entry.{Entry}
use Rattle.alw_msg.specs.Events.{node_of}
use Rattle.alw_msg.specs.Statuses.{has_trapped}
use Rattle.alw_msg.specs.Lists.{is_nonempty, front, behind}
use Rattle.alw_image.specs.declared.parts.Parts.{Parts}
use Rattle.alw_image.specs.Images.{node_count}
use Rattle.alw_image.specs.Parameters.{Parameters}
use Rattle.alw_num.specs.Maps.{empty_map}
use Rattle.alw_model.specs.Contexts.{all_halted}
use Rattle.alw_model.specs.NodeStates.{NodeState, node_start, stamp_of, is_enabled_at}
use Rattle.alw_model.specs.NodeSteps.{Stepped, node_step}

-- all nodes by number, and the link of each ordered pair of nodes, a node with itself too: that of (from, to) has the place from * N + to
pub record MachineState : Type 0 where
  pub nodes : List NodeState
  pub links : List (List Msg)

-- the machine at the start
abbrev pub machine_start : Parts → MachineState
machine_start parts = record { nodes = map (node_start parts) (range_with_len 0 (node_count parts)); links = replicate (node_count parts * node_count parts) [] }

-- a node without contexts, lines and messages, for a number that no node has
abbrev pub no_node : NodeState
no_node = record { slots = []; current = 0; cache = empty_map; transactions = empty_map; homes = []; packets = []; clock = 0 }

abbrev pub node_at : MachineState → ℕ → NodeState
node_at machine number = slice_index_or machine.nodes number no_node

abbrev pub link_place : Parts → ℕ → ℕ → ℕ
link_place parts from to = from * node_count parts + to

abbrev pub link_at : Parts → MachineState → ℕ → ℕ → List Msg
link_at parts machine from to = slice_index_or machine.links (link_place parts from to) []

-- the message that an event takes: a delivery takes the head of its link, and no other event takes one
abbrev pub taken_by : Parts → MachineState → Event → Option Msg
taken_by parts machine (Deliver from to) = front (link_at parts machine from.0 to.0)
taken_by parts machine _ = None

-- an event is enabled, the limit aside
abbrev pub is_enabled : Parts → Parameters → MachineState → Event → Bool
is_enabled parts parameters machine event = is_enabled_at parts parameters (node_of event) (node_at machine (node_of event)) event (taken_by parts machine event)

-- the stamp that an event has
abbrev pub stamp_at : Parts → MachineState → Event → ℕ
stamp_at parts machine event = stamp_of (node_at machine (node_of event)).clock (taken_by parts machine event)

-- every context of the machine has halted
abbrev pub has_halted : MachineState → Bool
has_halted machine = list_all (λ node. all_halted node.slots) machine.nodes

-- an event is within the limit: its stamp is, or every context was halted before it
abbrev pub is_within_limit : Parts → Parameters → MachineState → Event → Bool
is_within_limit parts parameters machine event = nat_le (stamp_at parts machine event) parameters.limit || has_halted machine

-- a delivery takes the front off its link
abbrev pub links_taken : Parts → List (List Msg) → Event → List (List Msg)
links_taken parts links (Deliver from to) =
    let place = link_place parts from.0 to.0 in
    slice_set links place (behind (slice_index_or links place []))
links_taken parts links _ = links

-- what a node sends goes to the ends of its links, in order
abbrev pub links_sent : Parts → List (List Msg) → ℕ → List (ℕ × Msg) → List (List Msg)
links_sent parts links from [] = links
links_sent parts links from (send ∷ rest) =
    let place = link_place parts from send.0 in
    links_sent parts (slice_set links place (slice_index_or links place [] ++ send.1 ∷ [])) from rest

-- what an event does at its node
abbrev pub stepped_by : Parts → Parameters → MachineState → Event → Stepped
stepped_by parts parameters machine event = node_step parts parameters (node_of event) (node_at machine (node_of event)) event (taken_by parts machine event)

-- the machine after an event, given what the event does at its node
abbrev pub after_step : Parts → MachineState → Event → Stepped → MachineState
after_step parts machine event stepped = record {
  nodes = slice_set machine.nodes (node_of event) stepped.node;
  links = links_sent parts (links_taken parts machine.links event) (node_of event) stepped.sends;
}

-- the machine after an event
abbrev pub step : Parts → Parameters → MachineState → Event → MachineState
step parts parameters machine event = after_step parts machine event (stepped_by parts parameters machine event)

-- the machine after some entries
abbrev pub after : Parts → Parameters → MachineState → List Entry → MachineState
after parts parameters machine [] = machine
after parts parameters machine (entry ∷ rest) = after parts parameters (step parts parameters machine entry.event) rest

-- the machine after a journal
unfoldable pub state : Parts → Parameters → List Entry → MachineState
state parts parameters journal = after parts parameters (machine_start parts) journal

-- ---- legal journals

-- an entry names an event that is enabled and within the limit, and has that event's stamp
pub record IsNext (parts : Parts) (parameters : Parameters) (machine : MachineState) (entry : Entry) : Type 0 where
  pub enabled : IsTrue (is_enabled parts parameters machine entry.event)
  pub within : IsTrue (is_within_limit parts parameters machine entry.event)
  pub stamp : entry.stamp ≡ stamp_at parts machine entry.event

-- each entry is the next one in its turn
abbrev pub AreLegal : Parts → Parameters → MachineState → List Entry → Type 0
AreLegal parts parameters machine [] = Unit {0}
AreLegal parts parameters machine (entry ∷ rest) = IsNext parts parameters machine entry × AreLegal parts parameters (step parts parameters machine entry.event) rest

-- a journal is legal
abbrev pub IsLegal : Parts → Parameters → List Entry → Type 0
IsLegal parts parameters journal = AreLegal parts parameters (machine_start parts) journal

-- the same as tests
abbrev pub is_next : Parts → Parameters → MachineState → Entry → Bool
is_next parts parameters machine entry =
    is_enabled parts parameters machine entry.event && (is_within_limit parts parameters machine entry.event && (entry.stamp == stamp_at parts machine entry.event))

abbrev pub are_legal : Parts → Parameters → MachineState → List Entry → Bool
are_legal parts parameters machine [] = true
are_legal parts parameters machine (entry ∷ rest) = is_next parts parameters machine entry && are_legal parts parameters (step parts parameters machine entry.event) rest

unfoldable pub is_legal : Parts → Parameters → List Entry → Bool
is_legal parts parameters journal = are_legal parts parameters (machine_start parts) journal

-- ---- ends

-- the main events: by node, an instruction, an action of the handler, and a delivery from each node
abbrev pub main_events : Parts → List Event
main_events parts = flat_map (λ at. Instr (record { 0 = at }) ∷ Handle (record { 0 = at }) ∷ map (λ from. Deliver (record { 0 = from }) (record { 0 = at })) (range_with_len 0 (node_count parts))) (range_with_len 0 (node_count parts))

-- a context is trapped
abbrev pub any_trapped : MachineState → Bool
any_trapped machine = list_any (λ node. list_any (λ slot. has_trapped slot.status) node.slots) machine.nodes

-- all links and packet queues are empty
abbrev pub is_settled : MachineState → Bool
is_settled machine = not (list_any is_nonempty machine.links) && not (list_any (λ node. is_nonempty node.packets) machine.nodes)

-- a main event within the limit is enabled
abbrev pub goes_on : Parts → Parameters → MachineState → Bool
goes_on parts parameters machine = list_any (λ event. is_enabled parts parameters machine event && is_within_limit parts parameters machine event) (main_events parts)

pub data End : Type 0 where
  Trapped : End
  Halted : End
  Limit : End

-- the end of a run that holds, the first of the three: a context is trapped; every context has halted and the machine is settled; no main event within the limit is enabled
abbrev pub end_of : Parts → Parameters → MachineState → Option End
end_of parts parameters machine =
    cond (any_trapped machine) (Some Trapped)
    (cond (has_halted machine && is_settled machine) (Some Halted)
    (cond (goes_on parts parameters machine) None (Some Limit)))
