-- What is kept of each node, and the main events that it says are enabled within the limit.
use Rattle.std.specs.Prelude.{◌≡◌, ℕ, ◌+◌, ◌≤◌, Bool, false, cond, Some, List, [], ◌∷◌, ◌++◌, map, length, replicate, slice_get, slice_index_or}
use Rattle.alw_num.specs.NodeSets.{members, count_nodes, nodes_of}
use Rattle.alw_num.specs.Weights.{digit}
use Rattle.alw_msg.specs.declared.events.Event.{Event}
use Rattle.alw_msg.specs.declared.events.Event.TheVariants.{Instr, Handle, Deliver}
use Rattle.alw_ready.specs.declared.rows.Row.{Row}

abbrev pub instr_at : ℕ → Event
instr_at at = Instr (record { 0 = at })

abbrev pub handle_at : ℕ → Event
handle_at at = Handle (record { 0 = at })

abbrev pub delivery : ℕ → ℕ → Event
delivery from to = Deliver (record { 0 = from }) (record { 0 = to })

-- an event in front of others, where a test holds
abbrev pub event_if : Bool → Event → List Event → List Event
event_if test event rest = cond test (event ∷ rest) rest

-- the events of a node's row: none where the node isn't in time, and else an instruction, an action of the handler, and deliveries by sender
abbrev pub row_events : ℕ → Row → List Event
row_events at row =
    cond row.in_time (event_if row.instr (instr_at at) (event_if row.handle (handle_at at) (map (λ from. delivery from at) (members (nodes_of row.senders))))) []

-- how many they are
abbrev pub row_count : Row → ℕ
row_count row = cond row.in_time (digit row.instr + (digit row.handle + count_nodes (nodes_of row.senders))) 0

-- the events of rows, node by node, of which the first is node `at`
abbrev pub events_from : ℕ → List Row → List Event
events_from at [] = []
events_from at (row ∷ rest) = row_events at row ++ events_from (at + 1) rest

-- the events of all nodes
abbrev pub events_of : List Row → List Event
events_of rows = events_from 0 rows

-- a row without events, for a number that no node has
abbrev pub no_row : Row
no_row = record { in_time = false; instr = false; handle = false; senders = record { words = replicate 4 0 } }

abbrev pub row_at : List Row → ℕ → Row
row_at rows at = slice_index_or rows at no_row

-- rows of at most 256 nodes, each with the count of its events
pub record RowsAreCounted (rows : List Row) (counts : List ℕ) : Type 0 where
  pub few : length rows ≤ 256
  pub counted : counts ≡ map row_count rows

-- divisors by place, from 1 on
abbrev pub AreDivisors : List ℕ → Type 0
AreDivisors divisors = (i divisor : ℕ) → slice_get divisors i ≡ Some divisor → divisor ≡ i + 1
