-- What a cell keeps beside what contracts see: the senders with something in their in lists, and room for what an event sends.
use Rattle.std.specs.Prelude.{◌≡◌, ℕ, ◌≤◌, List, length}
use Rattle.alw_num.specs.NodeSets.{has_node, nodes_of}
use Rattle.alw_num.specs.declared.node_sets.NodeSet.{NodeSet}
use Rattle.alw_num.specs.Limits.{most_nodes}
use Rattle.alw_msg.specs.declared.messages.Msg.{Msg}
use Rattle.alw_msg.specs.Lists.{is_nonempty}
use Rattle.alw_msg.specs.Sending.{Sending}
use Rattle.alw_image.specs.Images.{node_count}
use Rattle.alw_model.specs.declared.steps.Did.{Did}
use Rattle.alw_model.specs.Threads.{Logged}
use Rattle.alw_node.specs.Nodes.{Whole}
use Rattle.alw_cells.specs.Cells.{IsReplayed, in_from}
use Rattle.alw_cells.specs.Logs.{Written}

-- the set has the nodes with something in their in lists
abbrev pub AreSenders : List (List Msg) → NodeSet → Type 0
AreSenders come senders = (from : ℕ) → has_node (nodes_of senders) from ≡ is_nonempty (in_from come from)

pub record CellIsKept (node : Whole) (log : List Logged) (come : List (List Msg)) (senders : NodeSet) (pending : List (ℕ × Msg)) (sent : Sending)
    (dids : List Did) : Type 0 where
  pub replayed : IsReplayed node log come pending dids
  pub sent_by : AreSenders come senders
  pub room : sent.room ≡ node_count node.parts
  pub few : length come ≤ most_nodes

-- all of that, and the log is the node's
pub record LogIsFiled (node : Whole) (log : Written) (come : List (List Msg)) (senders : NodeSet) (pending : List (ℕ × Msg)) (sent : Sending)
    (dids : List Did) : Type 0 where
  pub kept : CellIsKept node log.entries come senders pending sent dids
  pub own : log.number ≡ node.number
