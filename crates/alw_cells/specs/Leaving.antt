-- What workers leave of a machine: each node as its log leaves it, and what the events of each log did.
use Rattle.std.specs.Prelude.{◌≡◌, ℕ, ◌<◌, Some, List, length, slice_get}
use Rattle.alw_image.specs.declared.parts.Parts.{Parts}
use Rattle.alw_image.specs.Images.{node_count}
use Rattle.alw_image.specs.Parameters.{Parameters}
use Rattle.alw_model.specs.NodeStates.{node_start}
use Rattle.alw_model.specs.Threads.{Logged, log_at, node_after}
use Rattle.law_order.specs.Merges.{AreLocalRuns}
use Rattle.alw_node.specs.Nodes.{Whole}
use Rattle.alw_node.specs.Shares.{share_of}
use Rattle.alw_cells.specs.declared.parts.Worked.{Worked}
use Rattle.alw_cells.specs.Cells.{dids_of}
use Rattle.alw_cells.specs.Logs.{logged}

-- a node of an image after its log
abbrev pub whole_after : Parts → Parameters → ℕ → List Logged → Whole
whole_after image parameters n log = record {
  number = n;
  parts = share_of image n;
  parameters = parameters;
  state = node_after image parameters n (node_start image n) log;
}

-- the logs are local runs of this image whose links agree; at each place stands that node after its log, and what the log's events did
pub record LogsAreWorked (image : Parts) (parameters : Parameters) (worked : Worked) : Type 0 where
  pub runs : AreLocalRuns image parameters (logged worked.logs)
  pub node_places : length worked.nodes ≡ node_count image
  pub nodes_are : (n : ℕ) → n < node_count image → slice_get worked.nodes n ≡ Some (whole_after image parameters n (log_at (logged worked.logs) n))
  pub did_places : length worked.dids ≡ node_count image
  pub dids_are : (n : ℕ) → n < node_count image → slice_get worked.dids n ≡ Some (dids_of image parameters n (log_at (logged worked.logs) n))
