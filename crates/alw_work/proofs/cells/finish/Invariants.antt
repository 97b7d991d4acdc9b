-- The cell is of the same node, and its clock comes nearer the limit.
use Rattle.std.proofs.Common.{◌+◌, ◌-◌}
use Rattle.alw_work.proofs.Finishing.{CellGoes}
use Rattle.alw_work.proofs.cells.finish.Given as goal

abbrev pub invariant-loop : goal.invariant-loop
invariant-loop l = CellGoes l.fn.cell l.cell

abbrev pub decreases-loop : goal.decreases-loop
decreases-loop l = l.cell.node.parameters.limit + 1 - l.cell.node.state.clock
