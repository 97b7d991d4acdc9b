use Rattle.std.proofs.Common.{◌≡◌, drop}
use Rattle.alw_merge.specs.Spans.{links_moved}
use Rattle.alw_merge.proofs.walks.carry.Given as goal

-- what is left of the moves leaves what all of them leave
abbrev pub invariant-loop-i : goal.invariant-loop-i
invariant-loop-i l = record {
  nodes : l.links.nodes ≡ l.fn.links.nodes;
  links : links_moved l.fn.links.nodes l.links.links (drop l.i l.moves) ≡ links_moved l.fn.links.nodes l.fn.links.links l.moves;
}
