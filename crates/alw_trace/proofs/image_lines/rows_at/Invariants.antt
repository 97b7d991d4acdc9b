-- Lines are read, and so many bytes are left.
use Rattle.std.proofs.Common.{◌-◌, length}
use Rattle.alw_trace.proofs.RowReads.{RowsSoFar}
use Rattle.alw_trace.proofs.image_lines.rows_at.Given as goal

abbrev pub invariant-loop-image : goal.invariant-loop-image
invariant-loop-image l = RowsSoFar l.count l.text l.image l.rest

abbrev pub decreases-loop-image : goal.decreases-loop-image
decreases-loop-image l = l.count - length l.image
