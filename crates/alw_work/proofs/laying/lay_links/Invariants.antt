-- The links from the nodes so far are laid.
use Rattle.std.proofs.Common.{◌≡◌, ◌*◌, length}
use Rattle.alw_work.specs.Ties.{RowsAreNew, LinksAreColumns}
use Rattle.alw_work.proofs.laying.lay_links.Given as goal

abbrev pub invariant-loop-from : goal.invariant-loop-from
invariant-loop-from g l = record {
  count : length l.links.items ≡ l.from * l.nodes;
  rows : length l.outs.items ≡ l.from;
  outs : RowsAreNew l.links.items l.nodes l.outs.items;
  ins : LinksAreColumns l.links.items l.nodes l.from 0 l.ins.items;
}
