-- How the links are tied to the logs: what the passes of a node pushed and popped is what its log sent and took, but for what stands between.
use Rattle.std.specs.Prelude.{◌≡◌, ◌≢◌, ℕ, ◌+◌, ◌*◌, ◌<◌, ◌≤◌, Option, Some, None, option_to_list, List, [], ◌∷◌, ◌++◌, map, length, slice_get, slice_set}
use Rattle.std.specs.Global.{Vec}
use Rattle.alw_msg.specs.declared.messages.Msg.{Msg}
use Rattle.alw_model.specs.Threads.{sent_to, IsFront}
use Rattle.alw_cells.specs.Cells.{Cell, in_from, picked, as_carried}
use Rattle.alw_ruled.specs.Ends.{LinkName}
use Rattle.alw_work.specs.declared.ends.Out.{Out}
use Rattle.alw_work.specs.declared.ends.In.{In}
use Rattle.alw_work.specs.declared.laying.Laid.{Laid}
use Rattle.alw_work.specs.declared.closing.Left.{Left}
use Rattle.alw_work.specs.Seats.{EachAt, came_of}

-- what was given to the sender's end: what it pushed, and the message that it keeps
abbrev pub given : Out → List Msg
given out = out.end.pushed ++ option_to_list out.kept

-- the sender's end of the link to a node: what was given to it, and the out list, is what the log sent
pub record FitsOut (links : List LinkName) (nodes number : ℕ) (cell : Cell) (to : ℕ) (out : Out) : Type 0 where
  pub name : slice_get links (number * nodes + to) ≡ Some out.end.link
  pub words : given out ++ picked to cell.pending ≡ sent_to to cell.log

-- messages as their kinds carry them, which is how a cell takes them in
abbrev pub all_carried : List Msg → List Msg
all_carried messages = map as_carried messages

-- the receiver's end of the link from a node: what it popped is what has come, and the message that it keeps
pub record FitsIn (links : List LinkName) (nodes number : ℕ) (cell : Cell) (from : ℕ) (come : In) : Type 0 where
  pub name : slice_get links (from * nodes + number) ≡ Some come.end.link
  pub words : all_carried come.end.popped ≡ came_of cell from ++ all_carried (option_to_list come.kept)

-- all ends of a node: one for each node, in order, and each is tied to the log
pub record AreTiedOuts (links : List LinkName) (nodes number : ℕ) (cell : Cell) (outs : List Out) : Type 0 where
  pub count : length outs ≡ nodes
  pub each : EachAt (FitsOut links nodes number cell) outs

pub record AreTiedIns (links : List LinkName) (nodes number : ℕ) (cell : Cell) (ins : List In) : Type 0 where
  pub count : length ins ≡ nodes
  pub each : EachAt (FitsIn links nodes number cell) ins

-- ---- moves

-- an end gave its next message, or none
pub record Receives (before after : In) (msg : Option Msg) : Type 0 where
  pub link : after.end.link ≡ before.end.link
  pub empty : after.kept ≡ None
  pub words : (came : List Msg) → all_carried before.end.popped ≡ came ++ all_carried (option_to_list before.kept)
      → all_carried after.end.popped ≡ came ++ all_carried (option_to_list msg)

-- messages have come into in lists alone
pub record IsSameButCome (before after : Cell) : Type 0 where
  pub node : after.node ≡ before.node
  pub log : after.log ≡ before.log
  pub pending : after.pending ≡ before.pending
  pub dids : after.dids ≡ before.dids

-- messages were given out alone
pub record IsSameButGiven (before after : Cell) : Type 0 where
  pub node : after.node ≡ before.node
  pub log : after.log ≡ before.log
  pub come : after.come ≡ before.come
  pub dids : after.dids ≡ before.dids

-- messages of a node went from its link into the in list, by the end
pub record Fetches (from : ℕ) (before after : Cell) (old new : In) : Type 0 where
  pub same : IsSameButCome before after
  pub link : new.end.link ≡ old.end.link
  pub others : (k : ℕ) → k ≢ from → in_from after.come k ≡ in_from before.come k
  pub words : all_carried old.end.popped ≡ came_of before from ++ all_carried (option_to_list old.kept)
      → all_carried new.end.popped ≡ came_of after from ++ all_carried (option_to_list new.kept)

-- a message to a node went from the out list to the end
pub record Offers (to : ℕ) (before after : Cell) (old new : Out) : Type 0 where
  pub same : IsSameButGiven before after
  pub link : new.end.link ≡ old.end.link
  pub others : (k : ℕ) → k ≢ to → picked k after.pending ≡ picked k before.pending
  pub words : given new ++ picked to after.pending ≡ given old ++ picked to before.pending

-- ---- links that agree

-- what a cell sent has no bytes that kinds don't carry
abbrev pub SendsPlain : Cell → Type 0
SendsPlain cell = (to : ℕ) → all_carried (sent_to to cell.log) ≡ sent_to to cell.log

abbrev pub SendPlain : List Cell → Type 0
SendPlain cells = EachAt (λ k. SendsPlain) cells

-- what has come to one cell of another is a front of what that one sent it
abbrev pub AgreesAt : List Cell → ℕ → ℕ → Type 0
AgreesAt cells from to = (one other : Cell) → slice_get cells from ≡ Some one → slice_get cells to ≡ Some other → IsFront (came_of other from)
    (sent_to to one.log)

abbrev pub AllAgree : List Cell → Type 0
AllAgree cells = (from to : ℕ) → AgreesAt cells from to

-- ---- new links

-- an end of a link on which nothing was sent
pub record IsNewOut (links : List LinkName) (nodes number : ℕ) (to : ℕ) (out : Out) : Type 0 where
  pub name : slice_get links (number * nodes + to) ≡ Some out.end.link
  pub empty : given out ≡ []

pub record IsNewIn (links : List LinkName) (nodes number : ℕ) (from : ℕ) (come : In) : Type 0 where
  pub name : slice_get links (from * nodes + number) ≡ Some come.end.link
  pub empty : (come.end.popped ≡ []) × (come.kept ≡ None)

-- the sender's ends of a node, one for each node
pub record AreNewOuts (links : List LinkName) (nodes number : ℕ) (row : List Out) : Type 0 where
  pub count : length row ≡ nodes
  pub each : EachAt (IsNewOut links nodes number) row

-- the sender's ends of all nodes
abbrev pub RowsAreNew : List LinkName → ℕ → List (Vec Out) → Type 0
RowsAreNew links nodes outs = EachAt (λ number (row : Vec Out). AreNewOuts links nodes number row.items) outs

-- the receiver's ends of all nodes, from the first so many of them, and of the first `to` nodes from one more
pub record LinksAreColumns (links : List LinkName) (nodes from to : ℕ) (ins : List (Vec In)) : Type 0 where
  pub count : length ins ≡ nodes
  pub each : EachAt (λ number (column : Vec In). EachAt (IsNewIn links nodes number) column.items) ins
  pub below : (number : ℕ) (column : Vec In) → slice_get ins number ≡ Some column → number < to → length column.items ≡ from + 1
  pub above : (number : ℕ) (column : Vec In) → slice_get ins number ≡ Some column → to ≤ number → length column.items ≡ from

-- a list has what another has, at the same places
abbrev pub Keeps : List LinkName → List LinkName → Type 0
Keeps before after = (place : ℕ) (link : LinkName) → slice_get before place ≡ Some link → slice_get after place ≡ Some link

-- the links from one node more
pub record LaysRow (nodes from : ℕ) (before after : List LinkName) (row : List Out) (ins : List (Vec In)) : Type 0 where
  pub keeps : Keeps before after
  pub count : length after ≡ from * nodes + nodes
  pub row_is : AreNewOuts after nodes from row
  pub ins_are : LinksAreColumns after nodes (from + 1) 0 ins

-- all links and their ends
pub record LinksAreLaid (nodes : ℕ) (laid : Laid) : Type 0 where
  pub links : length laid.links.items ≡ nodes * nodes
  pub rows : length laid.outs.items ≡ nodes
  pub outs : RowsAreNew laid.links.items nodes laid.outs.items
  pub ins : LinksAreColumns laid.links.items nodes nodes 0 laid.ins.items

-- ---- what locks leave

abbrev pub cells_in : List Left → List Cell
cells_in lefts = map (λ (left : Left). left.cell) lefts

-- the ends of a node are tied to its log
pub record IsTied (links : List LinkName) (nodes number : ℕ) (left : Left) : Type 0 where
  pub outs : AreTiedOuts links nodes number left.cell left.outs.items
  pub ins : AreTiedIns links nodes number left.cell left.ins.items

abbrev pub EndsAreTied : List LinkName → ℕ → List Left → Type 0
EndsAreTied links nodes lefts = EachAt (IsTied links nodes) lefts

-- a node has an end left
pub record HasOut (from : ℕ) (lefts : List Left) : Type 0 where
  pub left : Left
  pub here : slice_get lefts from ≡ Some left
  pub some : 0 < length left.outs.items

pub record HasIn (to : ℕ) (lefts : List Left) : Type 0 where
  pub left : Left
  pub here : slice_get lefts to ≡ Some left
  pub some : 0 < length left.ins.items

-- the last end of a node was taken off, and all else is the same
pub record TakesOut (from : ℕ) (before after : List Left) (out : Out) : Type 0 where
  pub was : Left
  pub now : Left
  pub here : slice_get before from ≡ Some was
  pub after_is : after ≡ slice_set before from now
  pub cell : now.cell ≡ was.cell
  pub ins : now.ins.items ≡ was.ins.items
  pub outs : was.outs.items ≡ now.outs.items ++ out ∷ []

pub record TakesIn (to : ℕ) (before after : List Left) (come : In) : Type 0 where
  pub was : Left
  pub now : Left
  pub here : slice_get before to ≡ Some was
  pub after_is : after ≡ slice_set before to now
  pub cell : now.cell ≡ was.cell
  pub outs : now.outs.items ≡ was.outs.items
  pub ins : was.ins.items ≡ now.ins.items ++ come ∷ []
