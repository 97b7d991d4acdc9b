-- Sets of nodes as text.
use Rattle.std.specs.Prelude.{ℕ, List, [], ◌∷◌, ◌++◌, codes}
use Rattle.std.specs.List.{flat_map}
use Rattle.std.specs.Fmt.{decimal}

-- a node behind others
abbrev pub next_node : ℕ → List ℕ
next_node node = codes "," ++ decimal node

-- node numbers with commas, or `-` where there is none
abbrev pub nodes_text : List ℕ → List ℕ
nodes_text [] = codes "-"
nodes_text (first ∷ rest) = decimal first ++ flat_map next_node rest
