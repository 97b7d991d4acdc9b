-- So many bytes of the line are read.
use Rattle.alw_trace.proofs.RowReads.{RowSoFar}
use Rattle.alw_trace.proofs.image_lines.put_row.Given as goal

abbrev pub invariant-loop-place : goal.invariant-loop-place
invariant-loop-place l = RowSoFar l._place l.fn.image l.image l.text l.rest
