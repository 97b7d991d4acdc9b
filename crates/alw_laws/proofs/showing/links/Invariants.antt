-- The messages on the links of the nodes so far.
use Rattle.std.proofs.Common.{◌≡◌}
use Rattle.std.specs.List.{flat_map, range_with_len}
use Rattle.alw_mesh.specs.Histories.{state_of}
use Rattle.alw_laws.specs.Shown.{by_node, link_of}
use Rattle.alw_laws.proofs.showing.links.Given as goal

abbrev pub invariant-loop-n : goal.invariant-loop-n
invariant-loop-n l = l.links ≡ flat_map (λ from. by_node l.machine.image (link_of l.machine.image (state_of l.machine) l.line.0 from)) (range_with_len 0 l.n)
