-- What an image says of one node: its home lines and its contexts.
use Rattle.std.specs.Prelude.{ℕ, ◌/◌, Bool, ◌==◌}
use Rattle.alw_num.specs.declared.addresses.Line.{Line}
use Rattle.alw_num.specs.declared.addresses.LineNo.{LineNo}
use Rattle.alw_num.specs.declared.addresses.NodeNo.{NodeNo}

-- a line of which a node is the home, where each node has so many
abbrev pub is_line_of : ℕ → ℕ → ℕ → Bool
is_line_of per_node number line = line / per_node == number

-- a data line of which a node is the home
abbrev pub is_body_of : ℕ → ℕ → LineNo × Line → Bool
is_body_of per_node number body = is_line_of per_node number body.0.0

-- a start of a context of a node
abbrev pub is_start_of : ℕ → NodeNo × ℕ × ℕ → Bool
is_start_of number start = start.0.0 == number
