-- The ends of the nodes from this one on are new.
use Rattle.std.proofs.Common.{◌≡◌, length}
use Rattle.alw_image.specs.Images.{node_count}
use Rattle.alw_work.proofs.Finishing.{EachFrom}
use Rattle.alw_work.proofs.Layings.{RowIsNew, ColumnIsNew}
use Rattle.alw_work.proofs.runs.start_seats.Given as goal

abbrev pub invariant-loop-n : goal.invariant-loop-n
invariant-loop-n g l = record {
  rows : length l.outs.items ≡ node_count l.image;
  columns : length l.ins.items ≡ node_count l.image;
  outs : EachFrom (RowIsNew g.I.Naming.links (node_count l.image)) l.n l.outs.items;
  ins : EachFrom (ColumnIsNew g.I.Naming.links (node_count l.image)) l.n l.ins.items;
}
