-- Home lines as they are kept: their entries, which have a software set in the node's table, and how they start.
use Rattle.std.specs.Prelude.{◌≡◌, ℕ, ◌+◌, ◌*◌, ◌/◌, Bool, true, false, if◌then◌else◌, Some, List, [], ◌∷◌, map}
use Rattle.std.specs.List.{range_with_len}
use Rattle.alw_num.specs.NodeSets.{Nodes, no_nodes}
use Rattle.alw_num.specs.declared.states.State.TheVariants.{RO}
use Rattle.alw_num.specs.declared.states.Meta.TheVariants.{Normal, TrapAlways}
use Rattle.alw_num.specs.Maps.{value_at}
use Rattle.alw_image.specs.declared.parts.Parts.{Parts}
use Rattle.alw_image.specs.Images.{body_of, is_always}
use Rattle.alw_model.specs.LimitLess.{Directory}
use Rattle.dir_soft.specs.Tables.{Table, set_of_line}
use Rattle.alw_home.specs.Entries.{directory_of}
use Rattle.alw_home.specs.declared.deliveries.Acted.{Acted}
use Rattle.alw_home.specs.declared.deliveries.Acted.TheVariants as acted
use Rattle.alw_memory.specs.declared.memories.HomeLine.{HomeLine}

-- home lines from this one on, with a software table, as entries
abbrev pub entries_from : ℕ → List HomeLine → Table → List Directory
entries_from line [] table = []
entries_from line (home ∷ rest) table = directory_of home.entry (set_of_line table line) home.always ∷ entries_from (line + 1) rest table

-- a software table has room for each home line, and sets of home lines alone
pub record IsSoftTable (number per_node : ℕ) (table : Table) : Type 0 where
  pub lines : table.lines ≡ per_node
  pub keys : (line : ℕ) (set : Nodes) → value_at table.sets line ≡ Some set → line / per_node ≡ number

-- a delivery has trapped
abbrev pub has_trapped : Acted → Bool
has_trapped acted.Trapped = true
has_trapped _ = false

-- a home line at the start
abbrev pub line_start : Parts → ℕ → HomeLine
line_start parts line = record {
  entry = record { state = RO; meta = (if is_always parts line then TrapAlways else Normal); acks = 0; body = body_of parts line; pointers = no_nodes };
  always = is_always parts line;
}

-- the home lines of a node at the start
abbrev pub lines_start : Parts → ℕ → List HomeLine
lines_start parts number = map (line_start parts) (range_with_len (number * parts.per_node) parts.per_node)
