-- Routes through a mesh: along the row to the right column, and then along that column. Node n stands at column n % width of row n / width.
use Rattle.std.specs.Prelude.{ℕ, ◌+◌, ◌-◌, ◌*◌, ◌/◌, ◌%◌, Bool, false, cond, ◌&&◌, ◌||◌, ◌==◌, nat_lt, nat_le, Option, List, [], ◌∷◌, ◌++◌, map, reverse}
use Rattle.std.specs.List.{range_with_len}
use Rattle.alw_msg.specs.Lists.{front, behind}
use Rattle.mesh_route.specs.declared.ports.Port.{Port}
use Rattle.mesh_route.specs.declared.ports.Port.TheVariants.{Local, West, East, North, South}

abbrev pub column_of : ℕ → ℕ → ℕ
column_of width node = node % width

abbrev pub row_of : ℕ → ℕ → ℕ
row_of width node = node / width

abbrev pub node_at : ℕ → ℕ → ℕ → ℕ
node_at width column row = row * width + column

-- the numbers from one to another, both of them too, ascending or descending
abbrev pub stretch : ℕ → ℕ → List ℕ
stretch first last = cond (nat_le first last) (range_with_len first (last - first + 1)) (reverse (range_with_len last (first - last + 1)))

-- the nodes from a column of a row along that row to another column, and then along that column to another row
abbrev pub path : ℕ → ℕ → ℕ → ℕ → ℕ → List ℕ
path width column row to_column to_row =
    map (λ c. node_at width c row) (stretch column to_column) ++ map (λ r. node_at width to_column r) (behind (stretch row to_row))

-- the route from one node to another: the nodes in order, both of them too
unfoldable pub route : ℕ → ℕ → ℕ → List ℕ
route width from to = path width (column_of width from) (row_of width from) (column_of width to) (row_of width to)

-- the node behind the first on the route
abbrev pub next_on : ℕ → ℕ → ℕ → Option ℕ
next_on width at to = front (behind (route width at to))

abbrev pub is_first : ℕ → List ℕ → Bool
is_first node [] = false
is_first node (first ∷ rest) = node == first

-- on a list of nodes one has another directly behind it
abbrev pub has_step : ℕ → ℕ → List ℕ → Bool
has_step a b [] = false
has_step a b (node ∷ rest) = (a == node && is_first b rest) || has_step a b rest

-- ---- the input queues of a node, named by the side from which a message came

abbrev pub port_number : Port → ℕ
port_number Local = 0
port_number West = 1
port_number East = 2
port_number North = 3
port_number South = 4

-- the queue of a node in which a message from a neighbour arrives; North is the side of the smaller row
abbrev pub port_from : ℕ → ℕ → ℕ → Port
port_from width neighbour node =
    cond (nat_lt (column_of width neighbour) (column_of width node)) West
    (cond (nat_lt (column_of width node) (column_of width neighbour)) East
    (cond (nat_lt (row_of width neighbour) (row_of width node)) North South))

-- the queues in which a message stands that comes from one node and visits others in order
abbrev pub stops_behind : ℕ → ℕ → List ℕ → List (ℕ × Port)
stops_behind width node [] = []
stops_behind width node (next ∷ rest) = (next, port_from width node next) ∷ stops_behind width next rest

-- the queues on the route of a pair, that of its first node first
unfoldable pub stops : ℕ → ℕ → ℕ → List (ℕ × Port)
stops width from to = (from, Local) ∷ stops_behind width from (behind (route width from to))
