-- The parts so far are those of the cells so far.
use Rattle.alw_cells.specs.Logs.{logged}
use Rattle.alw_cells.specs.Cells.{Cell}
use Rattle.alw_work.proofs.Leaving.{IsMade}
use Rattle.alw_work.proofs.cells.split_all.Given as goal

abbrev pub invariant-loop-cell : goal.invariant-loop-cell
invariant-loop-cell l = record {
  logs : IsMade (λ (c : Cell). c.log) (logged l.logs) l.cell-iterator.rest.items l.fn.cells.items;
  nodes : IsMade (λ (c : Cell). c.node) l.nodes l.cell-iterator.rest.items l.fn.cells.items;
  dids : IsMade (λ (c : Cell). c.dids) l.did_lists l.cell-iterator.rest.items l.fn.cells.items;
}
