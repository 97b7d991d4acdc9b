-- What is known of a cell behind a lock, and of the cells of a machine.
use Rattle.std.specs.Prelude.{◌≡◌, ◌<◌, ◌^◌, ℕ, Bool, true, List, [], ◌++◌, length, map, slice_get, Some}
use Rattle.alw_image.specs.declared.parts.Parts.{Parts}
use Rattle.alw_image.specs.Images.{node_count}
use Rattle.alw_image.specs.Parameters.{Parameters}
use Rattle.alw_model.specs.Threads.{Logs, took_from, sent_to}
use Rattle.alw_msg.specs.declared.messages.Msg.{Msg}
use Rattle.alw_model.specs.declared.steps.Did.{Did}
use Rattle.alw_node.specs.Nodes.{Whole}
use Rattle.alw_node.specs.Shares.{share_of}
use Rattle.alw_cells.specs.declared.parts.Worked.{Worked}
use Rattle.alw_cells.specs.Logs.{logged}
use Rattle.alw_cells.specs.Cells.{Cell, IsCell, IsSpent, in_from, picked}
use Rattle.alw_work.specs.Works.{holds_trap}

-- the number of the node behind a lock, its cell, and whether it has trapped
pub record Seat : Type 0 where
  pub number : ℕ
  pub cell : Cell
  pub trapped : Bool

-- the cell is of the node of this number of an image, with these parameters
pub record IsCellOf (parts : Parts) (parameters : Parameters) (number : ℕ) (cell : Cell) : Type 0 where
  pub number_is : cell.node.number ≡ number
  pub share : cell.node.parts ≡ share_of parts number
  pub parameters_are : cell.node.parameters ≡ parameters

-- the cell's log holds a trapping turn
abbrev pub HasTrapped : Cell → Type 0
HasTrapped cell = holds_trap cell.node.parts cell.node.parameters cell.node.number cell.log ≡ true

-- a mark of a trap is of a log that holds one
abbrev pub TrapIsMarked : Bool → Cell → Type 0
TrapIsMarked trapped cell = trapped ≡ true → HasTrapped cell

-- what a lock keeps
pub record IsSeat (parts : Parts) (parameters : Parameters) (number : ℕ) (cell : Cell) (trapped : Bool) : Type 0 where
  pub cell_is : IsCellOf parts parameters number cell
  pub marked : TrapIsMarked trapped cell

-- the node is the same one
pub record CellIsOfNode (before after : Cell) : Type 0 where
  pub number : after.node.number ≡ before.node.number
  pub parts : after.node.parts ≡ before.node.parts
  pub parameters : after.node.parameters ≡ before.node.parameters

-- what has come of a node: what the log took, and the in list
abbrev pub came_of : Cell → ℕ → List Msg
came_of cell from = took_from from cell.log ++ in_from cell.come from

-- a node took steps of its own: what has come is what had come, and what it sent is to be given out
pub record Works (before after : Cell) : Type 0 where
  pub came : (k : ℕ) → came_of after k ≡ came_of before k
  pub sent : (k : ℕ) → (more : List Msg) × (sent_to k after.log ≡ sent_to k before.log ++ more) × (picked k after.pending ≡ picked k before.pending ++ more)

-- nothing has come, and the log took nothing
pub record TakesNothing (cell : Cell) : Type 0 where
  pub come : (from : ℕ) → in_from cell.come from ≡ []
  pub took : (from : ℕ) → took_from from cell.log ≡ []

-- a cell has been stepped until it is spent
pub record CellFinishes (before after : Cell) : Type 0 where
  pub same : CellIsOfNode before after
  pub stands : IsCell after
  pub spent : IsSpent after.node.parameters after.node.state
  pub alone : TakesNothing before → TakesNothing after
  pub works : Works before after

-- each member of a list is as its place says
abbrev pub EachAt : {X : Type 0} → (ℕ → X → Type 0) → List X → Type 0
EachAt {X = X} P xs = (k : ℕ) → (x : X) → slice_get xs k ≡ Some x → P k x

-- a cell of this node of an image
abbrev pub StandsAt : Parts → Parameters → ℕ → Cell → Type 0
StandsAt parts parameters number cell = IsCellOf parts parameters number cell × IsCell cell

-- a cell for each node of an image, in order
pub record AreCells (parts : Parts) (parameters : Parameters) (cells : List Cell) : Type 0 where
  pub count : length cells ≡ node_count parts
  pub few : length cells < 2 ^ 32
  pub each : EachAt (StandsAt parts parameters) cells

-- the cells of so many nodes, and a mark of a trap is of one of them that has trapped
pub record CellsAreGathered (parts : Parts) (parameters : Parameters) (nodes : ℕ) (cells : List Cell) (trapped : Bool) : Type 0 where
  pub count : length cells ≡ nodes
  pub few : length cells < 2 ^ 32
  pub each : EachAt (StandsAt parts parameters) cells
  pub marked : trapped ≡ true → (k : ℕ) × ((cell : Cell) × ((slice_get cells k ≡ Some cell) × HasTrapped cell))

-- the logs of cells, their nodes, and what the events of the logs did
abbrev pub logs_in : List Cell → Logs
logs_in cells = map (λ (cell : Cell). cell.log) cells

abbrev pub nodes_in : List Cell → List Whole
nodes_in cells = map (λ (cell : Cell). cell.node) cells

abbrev pub dids_in : List Cell → List (List Did)
dids_in cells = map (λ (cell : Cell). cell.dids) cells

-- cells have been split, in order
pub record CellsAreSplit (cells : List Cell) (worked : Worked) : Type 0 where
  pub logs : logged worked.logs ≡ logs_in cells
  pub nodes : worked.nodes ≡ nodes_in cells
  pub dids : worked.dids ≡ dids_in cells

-- nothing has come to any cell, and no log took anything
abbrev pub CellsAreAlone : List Cell → Type 0
CellsAreAlone cells = EachAt (λ k. TakesNothing) cells

-- each cell has been stepped until it is spent
pub record CellsAreFinished (before after : List Cell) : Type 0 where
  pub count : length after ≡ length before
  pub each : (k : ℕ) → (cell : Cell) → slice_get after k ≡ Some cell → (was : Cell) × ((slice_get before k ≡ Some was) × CellFinishes was cell)
