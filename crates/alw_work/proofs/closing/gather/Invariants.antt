-- The cells so far stand in their places, a mark of a trap is of one of them, and their ends are tied to their logs.
use Rattle.alw_image.specs.Images.{node_count}
use Rattle.alw_work.specs.Ties.{cells_in, EndsAreTied}
use Rattle.alw_work.proofs.Finishing.{AreSoFar}
use Rattle.alw_work.proofs.closing.gather.Given as goal

abbrev pub invariant-loop-lock : goal.invariant-loop-lock
invariant-loop-lock g l = record {
  so_far : AreSoFar g.I.Naming.image g.I.Naming.parameters (cells_in l.lefts.items) l.trapped;
  tied : EndsAreTied g.I.Naming.links (node_count g.I.Naming.image) l.lefts.items;
}
