-- Worked runs of one line: a line handed over, two answers awaited, and a copy that is given back while it is called for.
use Rattle.std.specs.Prelude.{List, [], ◌∷◌}
use Rattle.alw_num.specs.declared.addresses.Line.{Line}
use Rattle.alw_num.specs.declared.states.Mode.TheVariants.{Read, Write}
use Rattle.alw_num.specs.NodeSets.{node_sets}
use Rattle.law_line.specs.Protocol.{LineEvent, Opens, Stores, Leaves, Comes, Acts}

-- To unfold this is to compute with sets of written-out nodes.
unfoldable pub worked_runs : Unit {0}
unfolding node_sets
worked_runs = tt

-- node 0 stores a value
abbrev pub stores_first : Line → List LineEvent → List LineEvent
stores_first body rest = Opens 0 Write ∷ Acts 0 ∷ Comes 0 ∷ Stores 0 body ∷ rest

-- then node 1 reads it: the owner is called, and answers with the line
abbrev pub handover : Line → List LineEvent
handover body = stores_first body (Opens 1 Read ∷ Acts 1 ∷ Comes 0 ∷ Acts 0 ∷ Comes 1 ∷ [])

-- or node 0 gives the line back, which crosses the INV
abbrev pub crossing : Line → List LineEvent
crossing body = stores_first body (Leaves 0 ∷ Opens 1 Read ∷ Acts 1 ∷ Acts 0 ∷ Comes 0 ∷ Acts 0 ∷ Comes 1 ∷ [])

-- nodes 0 and 1 read, and node 2 asks to write, up to the first of their two answers
abbrev pub one_answered : List LineEvent
one_answered = Opens 0 Read ∷ Acts 0 ∷ Comes 0 ∷ Opens 1 Read ∷ Acts 1 ∷ Comes 1 ∷ Opens 2 Write ∷ Acts 2 ∷ Comes 0 ∷ Acts 0 ∷ []

-- and the second
abbrev pub both_answered : List LineEvent
both_answered = Comes 1 ∷ Acts 1 ∷ []
