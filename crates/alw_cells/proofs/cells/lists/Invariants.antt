use Rattle.std.proofs.Common.{◌≡◌, ◌≤◌, [], replicate, vec_capacity}
use Rattle.alw_cells.proofs.cells.lists.Given as goal

abbrev pub invariant-loop : goal.invariant-loop
invariant-loop l = (l.lists.items ≡ replicate l.counter []) × (l.count ≤ vec_capacity l.lists)
