use Rattle.std.proofs.Common.{◌≡◌, ◌≤◌, ◌+◌, ◌++◌, length, reverse, vec_capacity}
use Rattle.alw_mesh.proofs.joining.nodes_of.Given as goal

-- what is left, and what was taken from the end, are all; and there is room for what is left
abbrev pub invariant-loop-node : goal.invariant-loop-node
invariant-loop-node l = (l.left ++ reverse l.items.items ≡ l.fn.nodes) × (length l.left + length l.items.items ≤ vec_capacity l.items)

abbrev pub decreases-loop-node : goal.decreases-loop-node
decreases-loop-node l = length l.left
