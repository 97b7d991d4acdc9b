-- The messages on the links to the nodes so far.
use Rattle.std.proofs.Common.{◌≡◌, ◌++◌}
use Rattle.std.specs.List.{flat_map, range_with_len}
use Rattle.alw_mesh.specs.Histories.{state_of}
use Rattle.alw_laws.specs.Shown.{link_of}
use Rattle.alw_laws.proofs.showing.put_home_links.Given as goal

abbrev pub invariant-loop-n : goal.invariant-loop-n
invariant-loop-n l = l.links ≡ l.fn.links ++ flat_map (link_of l.machine.image (state_of l.machine) l.line.0 l.at.0) (range_with_len 0 l.n)
