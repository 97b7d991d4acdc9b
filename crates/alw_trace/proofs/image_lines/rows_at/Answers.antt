-- One line more.
use Rattle.std.proofs.Common.{arith}
use Rattle.alw_trace.proofs.RowReads.{rows_begin_with, rows_go_on}
use Rattle.alw_trace.proofs.image_lines.rows_at.Goals as goal

pub loop-image-init : goal.loop-image-init
loop-image-init c = rows_begin_with _ _ _ c.empty-image.ensures

pub loop-image-preserved : goal.loop-image-preserved
loop-image-preserved c = rows_go_on _ _ _ _ _ _ _ c.loop-image.invariant (omega arith) (omega (arith, c.min.ensures, c.len-read.ensures))
    c.in_ok-rest.ensures.ok
