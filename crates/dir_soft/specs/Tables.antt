-- The software directory of a node: which nodes each line has beyond its hardware pointers.
use Rattle.std.specs.Prelude.{ℕ, Option, Some, None, length}
use Rattle.alw_num.specs.NodeSets.{Nodes, no_nodes}
use Rattle.alw_num.specs.Maps.{Map, value_at}

-- the number of lines that there is room for, the number of chains, and the sets, each nonempty, by line
pub record Table : Type 0 where
  pub lines : ℕ
  pub buckets : ℕ
  pub sets : Map Nodes

-- a set that may be missing: the empty one then
abbrev pub set_or_none : Option Nodes → Nodes
set_or_none None = no_nodes
set_or_none (Some nodes) = nodes

-- the set of a line: empty where it has none
abbrev pub set_of_line : Table → ℕ → Nodes
set_of_line table line = set_or_none (value_at table.sets line)

-- the number of lines that have a set
abbrev pub used_lines : Table → ℕ
used_lines table = length table.sets.entries

-- a table of these
abbrev pub table_of : ℕ → ℕ → Map Nodes → Table
table_of lines buckets sets = record { lines = lines; buckets = buckets; sets = sets }
