-- The cells so far, and those that are left, are all of them.
use Rattle.std.proofs.Common.{◌≡◌, ◌++◌}
use Rattle.alw_work.specs.Ties.{cells_in}
use Rattle.alw_work.proofs.closing.cells_of.Given as goal

abbrev pub invariant-loop-left : goal.invariant-loop-left
invariant-loop-left l = l.cells.items ++ cells_in l.left-iterator.rest.items ≡ cells_in l.fn.lefts.items
