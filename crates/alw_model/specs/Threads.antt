-- What threads leave: the log of each node as a run of its own, links that agree between logs, and the merge of logs into one journal (stamps after Lamport 1978).
use Rattle.std.specs.Prelude.{◌≡◌, ℕ, ◌<◌, ◌≤◌, Bool, false, cond, not, ◌&&◌, ◌||◌, ◌==◌, nat_lt, Option, is_some, option_to_list, List, [], ◌∷◌, ◌++◌, map, filter, flat_map, length, slice_index_or, IsTrue, IfSome}
use Rattle.alw_msg.specs.declared.messages.Msg.{Msg}
use Rattle.alw_msg.specs.declared.events.Event.{Event}
use Rattle.alw_msg.specs.declared.events.Event.TheVariants.{Deliver}
use Rattle.alw_msg.specs.declared.events.Entry.{Entry}
use Rattle.alw_msg.specs.Events.{node_of, is_evict}
use Rattle.alw_image.specs.declared.parts.Parts.{Parts}
use Rattle.alw_image.specs.Parameters.{Parameters}
use Rattle.alw_model.specs.NodeStates.{NodeState, node_start, stamp_of, is_enabled_at}
use Rattle.alw_model.specs.NodeSteps.{node_step}

-- an entry of a node's log, with the message that it took and the messages that it sent, each with its destination
pub record Logged : Type 0 where
  pub entry : Entry
  pub taken : Option Msg
  pub sent : List (ℕ × Msg)

-- the logs of all nodes, by number
abbrev pub Logs : Type 0
Logs = List (List Logged)

-- a delivery takes a message, and no other event takes one
abbrev pub takes_rightly : Event → Option Msg → Bool
takes_rightly (Deliver from to) taken = is_some taken
takes_rightly _ taken = not (is_some taken)

-- a log's entry is the node's step on a message that is fit, with its stamp, within the limit, and no eviction where none is wanted
pub record IsNextLogged (parts : Parts) (parameters : Parameters) (number : ℕ) (node : NodeState) (logged : Logged) : Type 0 where
  pub taken : IsTrue (takes_rightly logged.entry.event logged.taken)
  pub enabled : IsTrue (is_enabled_at parts parameters number node logged.entry.event logged.taken)
  pub stamp : logged.entry.stamp ≡ stamp_of node.clock logged.taken
  pub within : logged.entry.stamp ≤ parameters.limit
  pub evicts : parameters.evict ≡ 0 → is_evict logged.entry.event ≡ false
  pub sent : logged.sent ≡ (node_step parts parameters number node logged.entry.event logged.taken).sends

-- each entry is the node's next one in its turn
abbrev pub IsRunFrom : Parts → Parameters → ℕ → NodeState → List Logged → Type 0
IsRunFrom parts parameters number node [] = Unit {0}
IsRunFrom parts parameters number node (logged ∷ rest) = IsNextLogged parts parameters number node logged × IsRunFrom parts parameters number (node_step parts parameters number node logged.entry.event logged.taken).node rest

-- a local run of the node of this number, from its start
abbrev pub IsLocalRun : Parts → Parameters → ℕ → List Logged → Type 0
IsLocalRun parts parameters number log = IsRunFrom parts parameters number (node_start parts number) log

-- stamps above a clock rise strictly, and a message taken has a stamp below that of the entry that takes it
abbrev pub StampsRise : ℕ → List Logged → Type 0
StampsRise clock [] = Unit {0}
StampsRise clock (logged ∷ rest) = (clock < logged.entry.stamp) × IfSome logged.taken (λ msg. msg.stamp < logged.entry.stamp) × StampsRise logged.entry.stamp rest

-- the node after a log
abbrev pub node_after : Parts → Parameters → ℕ → NodeState → List Logged → NodeState
node_after parts parameters number node [] = node
node_after parts parameters number node (logged ∷ rest) = node_after parts parameters number (node_step parts parameters number node logged.entry.event logged.taken).node rest

-- the event is a delivery from this node
abbrev pub is_from : ℕ → Event → Bool
is_from number (Deliver from to) = from.0 == number
is_from number _ = false

-- the messages that a log took from a node, in order
abbrev pub took_from : ℕ → List Logged → List Msg
took_from number log = flat_map (λ logged. cond (is_from number logged.entry.event) (option_to_list logged.taken) []) log

-- the messages that a log sent to a node, in order
abbrev pub sent_to : ℕ → List Logged → List Msg
sent_to number log = flat_map (λ logged. map (λ (send : ℕ × Msg). send.1) (filter (λ (send : ℕ × Msg). send.0 == number) logged.sent)) log

-- the log of a node
abbrev pub log_at : Logs → ℕ → List Logged
log_at logs number = slice_index_or logs number []

-- one list is a front of another
abbrev pub IsFront : List Msg → List Msg → Type 0
IsFront some all = (rest : List Msg) × (some ++ rest ≡ all)

-- links agree: for each ordered pair of nodes, what the second's log took of the first is a front of what the first's log sent it
abbrev pub LinksAgree : Logs → Type 0
LinksAgree logs = (from to : ℕ) → from < length logs → to < length logs → IsFront (took_from from (log_at logs to)) (sent_to to (log_at logs from))

-- by stamp, and then by node number
abbrev pub is_before : Entry → Entry → Bool
is_before one other = nat_lt one.stamp other.stamp || (one.stamp == other.stamp && nat_lt (node_of one.event) (node_of other.event))

-- an entry in its place among entries in this order
abbrev pub placed : Entry → List Entry → List Entry
placed entry [] = entry ∷ []
placed entry (first ∷ rest) = cond (is_before first entry) (first ∷ placed entry rest) (entry ∷ first ∷ rest)

-- entries in this order
abbrev pub in_order : List Entry → List Entry
in_order [] = []
in_order (entry ∷ rest) = placed entry (in_order rest)

-- the merge: all entries of all logs, by stamp and then by node number
unfoldable pub merged : Logs → List Entry
merged logs = in_order (flat_map (map (λ logged. logged.entry)) logs)
