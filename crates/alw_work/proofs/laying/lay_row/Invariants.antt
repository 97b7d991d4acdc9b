-- The links to the nodes so far are laid.
use Rattle.std.proofs.Common.{◌≡◌, ◌+◌, ◌*◌, length}
use Rattle.alw_work.specs.Seats.{EachAt}
use Rattle.alw_work.specs.Ties.{IsNewOut, LinksAreColumns, Keeps}
use Rattle.alw_work.proofs.laying.lay_row.Given as goal

abbrev pub invariant-loop-to : goal.invariant-loop-to
invariant-loop-to g l = record {
  keeps : Keeps l.fn.links.items l.links.items;
  count : length l.links.items ≡ l.from * l.nodes + l.to;
  many : length l.row.items ≡ l.to;
  row_is : EachAt (IsNewOut l.links.items l.nodes l.from) l.row.items;
  ins_are : LinksAreColumns l.links.items l.nodes l.from l.to l.ins.items;
}
