-- Sizes of every machine.
use Rattle.std.specs.Prelude.{ℕ}

-- the address of the first word of shared data
abbrev pub shared_base : ℕ
shared_base = 1073741824

-- the nodes of the largest mesh
abbrev pub most_nodes : ℕ
most_nodes = 256
