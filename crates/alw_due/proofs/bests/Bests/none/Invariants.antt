-- Nothing at any place so far.
use Rattle.std.proofs.Common.{◌≡◌, ◌≤◌, None, replicate, vec_capacity}
use Rattle.alw_due.proofs.bests.Bests.none.Given as goal

abbrev pub invariant-loop-node : goal.invariant-loop-node
invariant-loop-node l = (l.dues.items ≡ replicate l._node None) × (256 ≤ vec_capacity l.dues)
