-- A run in spans of stamps: what a span has of a journal and of logs, what its events move on links, and what they tell.
use Rattle.std.specs.Prelude.{◌≡◌, ℕ, ◌≤◌, ◌<◌, ◌+◌, ◌*◌, ◌-◌, nat_lt, nat_le, ⊤, Bool, true, false, cond, Option, Some, None, Result, Ok, List, [], ◌∷◌, ◌++◌}
use Rattle.std.specs.Prelude.{map, flat_map, filter, length, take, drop, replicate, slice_get, slice_set}
use Rattle.std.specs.List.{AllByRecursion}
use Rattle.alw_num.specs.Limits.{most_nodes}
use Rattle.alw_num.specs.declared.memory.NoMemory.{NoMemory}
use Rattle.alw_msg.specs.declared.messages.Msg.{Msg}
use Rattle.alw_msg.specs.declared.events.Event.{Event}
use Rattle.alw_msg.specs.declared.events.Event.TheVariants.{Deliver}
use Rattle.alw_msg.specs.declared.events.Entry.{Entry}
use Rattle.alw_msg.specs.Events.{node_of}
use Rattle.alw_msg.specs.Lists.{behind}
use Rattle.alw_image.specs.declared.parts.Parts.{Parts}
use Rattle.alw_image.specs.Parameters.{Parameters}
use Rattle.alw_model.specs.declared.steps.Did.{Did}
use Rattle.alw_model.specs.Runs.{Moment, number_of, moments}
use Rattle.alw_model.specs.Threads.{Logged, Logs, merged}
use Rattle.alw_node.specs.Nodes.{Whole}
use Rattle.alw_cells.specs.declared.parts.Worked.{Worked}
use Rattle.alw_cells.specs.Leaving.{LogsAreWorked}
use Rattle.alw_cells.specs.Logs.{logged}
use Rattle.alw_links.specs.Traffic.{links_without, links_with}
use Rattle.alw_tally.specs.Told.{Told, told_of, sum_of}
use Rattle.alw_tally.specs.Tallies.{told_logged}
use Rattle.alw_merge.specs.declared.spans.Move.{Move}
use Rattle.alw_merge.specs.declared.spans.Span.{Span}
use Rattle.alw_merge.specs.declared.streams.Read.{Read}
use Rattle.alw_merge.specs.declared.walks.Walked.{Walked}
use Rattle.alw_merge.specs.Joins.{dids_at, told_at, unheld, JournalIsWalked}

-- ---- spans of a journal, whose stamps rise

-- how many entries of a journal have stamps below one
abbrev pub place_of : ℕ → List Entry → ℕ
place_of stamp journal = length (filter (λ (entry : Entry). nat_lt entry.stamp stamp) journal)

-- where a span ends in a journal: at a stamp, or with the journal
abbrev pub end_of : Option ℕ → List Entry → ℕ
end_of None journal = length journal
end_of (Some stamp) journal = place_of stamp journal

-- a span ends no earlier than it begins
abbrev pub IsAtMost : ℕ → Option ℕ → Type 0
IsAtMost low None = ⊤
IsAtMost low (Some high) = low ≤ high

-- the next entry, if there is one, is no longer of a span
abbrev pub is_behind : Option ℕ → Option Entry → Bool
is_behind high None = true
is_behind None (Some entry) = false
is_behind (Some high) (Some entry) = nat_le high entry.stamp

-- the members of a list from a place on, before another
abbrev pub between : {A : Type 0} → ℕ → ℕ → List A → List A
between i j xs = take (j - i) (drop i xs)

-- ---- logs, and what their events did, from a stamp on

abbrev pub log_from : ℕ → List Logged → List Logged
log_from stamp log = filter (λ (logged : Logged). nat_le stamp logged.entry.stamp) log

abbrev pub logs_from : ℕ → Logs → Logs
logs_from stamp logs = map (log_from stamp) logs

-- of what the events of each node did, the last so many as its log has
abbrev pub dids_behind : Logs → List (List Did) → List (List Did)
dids_behind [] dids = []
dids_behind (log ∷ logs) [] = []
dids_behind (log ∷ logs) (did_list ∷ dids) = drop (length did_list - length log) did_list ∷ dids_behind logs dids

-- ---- what an event moves

-- the message that it takes comes off its link
abbrev pub taking_of : Event → List Move
taking_of (Deliver from to) = record { from = from; to = to; sent = None } ∷ []
taking_of _ = []

-- each message that a node sends goes onto its link
abbrev pub sending_of : ℕ → List (ℕ × Msg) → List Move
sending_of from sends = map (λ (send : ℕ × Msg). record { from = record { 0 = from }; to = record { 0 = send.0 }; sent = Some send.1 }) sends

abbrev pub moves_of : Moment → List Move
moves_of moment = taking_of moment.entry.event ++ sending_of (number_of moment) moment.stepped.sends

-- what a move leaves on links, and what moves leave
abbrev pub moved_by : ℕ → List (List Msg) → ℕ → ℕ → Option Msg → List (List Msg)
moved_by nodes links from to None = links_without nodes links from to
moved_by nodes links from to (Some msg) = links_with nodes links from to msg

abbrev pub links_moved : ℕ → List (List Msg) → List Move → List (List Msg)
links_moved nodes links [] = links
links_moved nodes links (move ∷ rest) = links_moved nodes (moved_by nodes links move.from.0 move.to.0 move.sent) rest

-- all links that are moved on are between nodes that exist
abbrev pub MovesAreWithin : ℕ → List Move → Type 0
MovesAreWithin nodes moves = AllByRecursion (λ (move : Move). (move.from.0 < nodes) × (move.to.0 < nodes)) moves

-- ---- an event of a span

-- an event may be read off its node's log: what it did is there
pub record MayFollow (sends : List (ℕ × Msg)) (dids : List Did) : Type 0 where
  pub did : 1 ≤ length dids
  pub few : length sends ≤ most_nodes

-- it has been read, what it moves is said, and it is told
pub record Follows (image : Parts) (read : Read) (sends : List (ℕ × Msg)) (rest rest' : List (List Did)) (moves moves' : List Move) (told told' : Told) : Type 0 where
  pub rest_is : rest' ≡ slice_set rest (node_of read.entry.event) (behind (dids_at rest (node_of read.entry.event)))
  pub moves_are : moves' ≡ moves ++ (taking_of read.entry.event ++ sending_of (node_of read.entry.event) sends)
  pub told_is : told' ≡ told_logged image told (told_at read.entry (dids_at rest (node_of read.entry.event)) read.taken) sends

-- it has been read and is told, and moves nothing
pub record EventIsTold (image : Parts) (read : Read) (sends : List (ℕ × Msg)) (rest rest' : List (List Did)) (moves moves' : List Move) (told told' : Told) : Type 0 where
  pub rest_is : rest' ≡ slice_set rest (node_of read.entry.event) (behind (dids_at rest (node_of read.entry.event)))
  pub moves_are : moves' ≡ moves
  pub told_is : told' ≡ told_logged image told (told_at read.entry (dids_at rest (node_of read.entry.event)) read.taken) sends

-- ---- a span that was walked

-- a span has the entries of a journal whose stamps are from one on and below another, with what their events move, and what they tell where no
-- turn counts as having ended a hold
pub record IsSpan (image : Parts) (parameters : Parameters) (journal : List Entry) (low : ℕ) (high : Option ℕ) (span : Span) : Type 0 where
  pub entries_are : span.journal ≡ between (place_of low journal) (end_of high journal) journal
  pub moves_are : span.moves.items ≡ flat_map moves_of (between (place_of low journal) (end_of high journal) (moments image parameters journal))
  pub told_is : span.tally.told ≡ unheld (told_of image (between (place_of low journal) (end_of high journal) (moments image parameters journal)))

-- where the k-th of so many spans of one width begins: the last goes on to the end
abbrev pub bound : ℕ → ℕ → ℕ → Option ℕ
bound count width k = cond (nat_lt k count) (Some (k * width)) None

-- so many spans of one width, in order, as far as memory was had for each
pub record AreSpans (image : Parts) (parameters : Parameters) (journal : List Entry) (count width : ℕ) (spans : List (Result Span NoMemory)) : Type 0 where
  pub count_is : length spans ≡ count
  pub each : (k : ℕ) → (span : Span) → slice_get spans k ≡ Some (Ok span) → IsSpan image parameters journal (k * width) (bound count width (k + 1)) span

-- what is told so far, where no trap is kept
abbrev pub told_in : Walked → Told
told_in walked = record { turns = walked.turns; prints = walked.prints; counts = walked.counts; trap = None }

-- nothing has been walked
pub record WalkIsBegun (nodes : ℕ) (walked : Walked) : Type 0 where
  pub entries_are : walked.journal ≡ []
  pub nodes_are : walked.links.nodes ≡ nodes
  pub links_are : walked.links.links ≡ replicate (nodes * nodes) []
  pub told_is : (parts : Parts) → told_in walked ≡ told_of parts []

-- a span has been walked besides
pub record IsWalkedOn (walked : Walked) (span : Span) (more : Walked) : Type 0 where
  pub entries_are : more.journal ≡ walked.journal ++ span.journal
  pub nodes_are : more.links.nodes ≡ walked.links.nodes
  pub links_are : more.links.links ≡ links_moved walked.links.nodes walked.links.links span.moves.items
  pub turns_are : more.turns ≡ walked.turns ++ span.tally.told.turns
  pub prints_are : more.prints ≡ walked.prints ++ span.tally.told.prints
  pub counts_are : more.counts ≡ sum_of walked.counts span.tally.told.counts

-- so many of a journal's first entries have been walked
pub record IsWalkedTo (image : Parts) (parameters : Parameters) (journal : List Entry) (i : ℕ) (walked : Walked) : Type 0 where
  pub entries_are : walked.journal ≡ take i journal
  pub walked_is : JournalIsWalked image parameters (take i journal) walked.links (told_in walked)

-- what was walked is the journal of a run that workers leave, whose nodes these are
abbrev pub IsOfWorked : Parts → Parameters → Walked → List Whole → Type 0
IsOfWorked image parameters walked nodes = (worked : Worked) × (LogsAreWorked image parameters worked) × (worked.nodes ≡ nodes) × (walked.journal ≡ merged (logged worked.logs))
    × JournalIsWalked image parameters (merged (logged worked.logs)) walked.links (told_in walked)
