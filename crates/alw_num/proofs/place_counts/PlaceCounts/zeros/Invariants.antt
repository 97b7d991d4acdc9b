use Rattle.std.proofs.Common.{◌≡◌, ◌≤◌, replicate, vec_capacity}
use Rattle.alw_num.proofs.place_counts.PlaceCounts.zeros.Given as goal

abbrev pub invariant-loop-place : goal.invariant-loop-place
invariant-loop-place l = (l.counts.items ≡ replicate l._place 0) × (256 ≤ vec_capacity l.counts)
