use Rattle.std.proofs.Common.{◌≡◌, ◌≤◌, replicate, vec_capacity}
use Rattle.alw_ready.specs.Rows.{no_row}
use Rattle.alw_ready.proofs.ready.Ready.start.Given as goal

abbrev pub invariant-loop-node : goal.invariant-loop-node
invariant-loop-node l = (l.rows.items ≡ replicate l._node no_row) × (l.nodes ≤ vec_capacity l.rows)
