-- Entries by stamp and node: what an event sees and changes, lists of entries that ascend, and cuts (stamps after Lamport 1978).
use Rattle.std.specs.Prelude.{◌≡◌, ℕ, ◌<◌, nat_le, nat_lt, Bool, false, cond, ◌&&◌, ◌==◌, List, [], ◌∷◌, ◌++◌, filter, IsTrue}
use Rattle.std.specs.List.{AllByRecursion}
use Rattle.alw_msg.specs.declared.messages.Msg.{Msg}
use Rattle.alw_msg.specs.declared.events.Event.{Event}
use Rattle.alw_msg.specs.declared.events.Event.TheVariants.{Deliver}
use Rattle.alw_msg.specs.declared.events.Entry.{Entry}
use Rattle.alw_image.specs.declared.parts.Parts.{Parts}
use Rattle.alw_image.specs.Parameters.{Parameters}
use Rattle.alw_msg.specs.Events.{node_of}
use Rattle.alw_msg.specs.Lists.{behind}
use Rattle.alw_model.specs.Machine.{MachineState, node_at, link_at, taken_by, stepped_by, IsLegal}
use Rattle.alw_model.specs.Threads.{is_before}
use Rattle.law_lines.specs.Links.{msgs_to}

-- a fact of an image, parameters and a journal holds for every image, all parameters and every legal journal
abbrev pub EveryJournal : (Parts → Parameters → List Entry → Type 0) → Type 0
EveryJournal Fact = (parts : Parts) → (parameters : Parameters) → (journal : List Entry) → IsLegal parts parameters journal → Fact parts parameters journal

-- ---- one event

-- an event sees the same of two machines: the node that it is of, and the message that it takes
pub record SeesAlike (parts : Parts) (event : Event) (one other : MachineState) : Type 0 where
  pub node : node_at one (node_of event) ≡ node_at other (node_of event)
  pub taken : taken_by parts one event ≡ taken_by parts other event

-- the event takes a message off the link of these two nodes
abbrev pub takes_from : Event → ℕ → ℕ → Bool
takes_from (Deliver source target) from to = from == source.0 && (to == target.0)
takes_from _ from to = false

-- the link of two nodes after an event, by what the event takes and sends
abbrev pub link_after : Parts → Parameters → MachineState → Event → ℕ → ℕ → List Msg
link_after parts parameters machine event from to =
    cond (takes_from event from to) (behind (link_at parts machine from to)) (link_at parts machine from to)
    ++ cond (from == node_of event) (msgs_to to (stepped_by parts parameters machine event).sends) []

-- ---- lists of entries

-- the stamps of each node's entries rise strictly
abbrev pub NodesRise : List Entry → Type 0
NodesRise [] = Unit {0}
NodesRise (entry ∷ rest) = AllByRecursion (λ later. node_of later.event ≡ node_of entry.event → entry.stamp < later.stamp) rest × NodesRise rest

-- each entry stands before all later ones by stamp, and then by node number
abbrev pub Ascends : List Entry → Type 0
Ascends [] = Unit {0}
Ascends (entry ∷ rest) = AllByRecursion (λ later. IsTrue (is_before entry later)) rest × Ascends rest

-- ---- cuts

-- the entries with at most this stamp, in order
abbrev pub kept_by : ℕ → List Entry → List Entry
kept_by stamp journal = filter (λ entry. nat_le entry.stamp stamp) journal

-- the others, in order
abbrev pub later_than : ℕ → List Entry → List Entry
later_than stamp journal = filter (λ entry. nat_lt stamp entry.stamp) journal
