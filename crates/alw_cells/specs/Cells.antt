-- A node with its log, with what has come for it and what it has sent and not given out.
use Rattle.std.specs.Prelude.{◌≡◌, ℕ, cond, false, ◌⊎◌, ◌==◌, List, [], ◌∷◌, ◌++◌, map, filter, length, replicate, slice_index_or, slice_set}
use Rattle.std.specs.List.{list_any}
use Rattle.alw_msg.specs.declared.messages.Msg.{Msg}
use Rattle.alw_msg.specs.Sending.{carried_body}
use Rattle.alw_msg.specs.Statuses.{is_ready}
use Rattle.alw_image.specs.declared.parts.Parts.{Parts}
use Rattle.alw_image.specs.Images.{node_count}
use Rattle.alw_image.specs.Parameters.{Parameters}
use Rattle.alw_model.specs.declared.steps.Did.{Did}
use Rattle.alw_model.specs.NodeStates.{NodeState, node_start}
use Rattle.alw_model.specs.NodeSteps.{node_step}
use Rattle.alw_model.specs.Threads.{Logged, IsLocalRun, node_after, sent_to}
use Rattle.alw_node.specs.Nodes.{Whole, whole_start}
use Rattle.alw_cells.specs.declared.parts.CellParts.{CellParts}

-- a node, its log, the messages that have come from each node, the messages that are still to be given out, each with its receiver, in the order sent, and what
-- each event of the log did
pub record Cell : Type 0 where
  pub node : Whole
  pub log : List Logged
  pub come : List (List Msg)
  pub pending : List (ℕ × Msg)
  pub dids : List Did

-- a node at the start
abbrev pub cell_start : Parts → Parameters → ℕ → Cell
cell_start parts parameters number = record { node = whole_start parts parameters number; log = []; come = replicate (node_count parts) []; pending = []; dids = [] }

-- the in list from a node
abbrev pub in_from : List (List Msg) → ℕ → List Msg
in_from come from = slice_index_or come from []

-- of messages with their receivers, those that go to a node
abbrev pub picked : ℕ → List (ℕ × Msg) → List Msg
picked to sends = map (λ (send : ℕ × Msg). send.1) (filter (λ (send : ℕ × Msg). send.0 == to) sends)

-- the out list to a node
abbrev pub out_to : Cell → ℕ → List Msg
out_to cell to = picked to cell.pending

-- some messages are the last ones of all
abbrev pub IsBackPart : List Msg → List Msg → Type 0
IsBackPart some all = (first : List Msg) × (first ++ some ≡ all)

-- what each event of a log does, from a node on, and from the node's start
abbrev pub dids_from : Parts → Parameters → ℕ → NodeState → List Logged → List Did
dids_from parts parameters number node [] = []
dids_from parts parameters number node (logged ∷ rest) =
    let stepped = node_step parts parameters number node logged.entry.event logged.taken in
    stepped.did ∷ dids_from parts parameters number stepped.node rest

abbrev pub dids_of : Parts → Parameters → ℕ → List Logged → List Did
dids_of parts parameters number log = dids_from parts parameters number (node_start parts number) log

-- The log is a local run of the node, the node is as the run leaves it, each out list is a back part of what the log sent there, there is an in list for each node,
-- and what the events did is what they do.
pub record IsReplayed (node : Whole) (log : List Logged) (come : List (List Msg)) (pending : List (ℕ × Msg)) (dids : List Did) : Type 0 where
  pub run : IsLocalRun node.parts node.parameters node.number log
  pub state : node.state ≡ node_after node.parts node.parameters node.number (node_start node.parts node.number) log
  pub outs : (to : ℕ) → IsBackPart (picked to pending) (sent_to to log)
  pub ins : length come ≡ node_count node.parts
  pub answers : dids ≡ dids_of node.parts node.parameters node.number log

-- what holds of every cell
abbrev pub IsCell : Cell → Type 0
IsCell cell = IsReplayed cell.node cell.log cell.come cell.pending cell.dids

-- what a cell was of
pub record CellIsSplit (cell : Cell) (parts : CellParts) : Type 0 where
  pub node : parts.node ≡ cell.node
  pub log : parts.log.entries ≡ cell.log
  pub dids : parts.dids ≡ cell.dids

-- a message as its kind carries it: of a kind that carries no line the bytes are left out
abbrev pub as_carried : Msg → Msg
as_carried msg = record msg { body = carried_body msg.kind msg.body }

-- a message has come from a node
abbrev pub after_coming : Cell → ℕ → Msg → Cell
after_coming cell from msg = record cell { come = slice_set cell.come from (in_from cell.come from ++ msg ∷ []) }

-- messages with their receivers, without the first that goes to a node
abbrev pub without_first : ℕ → List (ℕ × Msg) → List (ℕ × Msg)
without_first to [] = []
without_first to (send ∷ rest) = cond (send.0 == to) rest (send ∷ without_first to rest)

-- the first message to a node has been given out
abbrev pub after_giving : Cell → ℕ → Cell
after_giving cell to = record cell { pending = without_first to cell.pending }

-- a node is spent: its clock is the limit, or it has no Ready context and no packet
abbrev pub IsSpent : Parameters → NodeState → Type 0
IsSpent parameters node = (node.clock ≡ parameters.limit) ⊎ ((list_any (λ slot. is_ready slot.status) node.slots ≡ false) × (node.packets ≡ []))
