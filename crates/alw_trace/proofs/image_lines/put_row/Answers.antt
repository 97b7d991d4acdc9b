-- No line goes on where no byte stands, or none ends.
use Rattle.std.proofs.Common.{arith, refl}
use Rattle.alw_trace.proofs.RowReads.{no_byte, no_feed}
use Rattle.alw_trace.proofs.image_lines.put_row.Goals as goal

pub returns-in_default-clause-err : goal.returns-in_default-clause-err
returns-in_default-clause-err c = (refl, no_byte _ _ _ _ _ _ c.loop-place.invariant (omega arith) c.in_default.ensures.none)

pub returns-in-None-clause-err : goal.returns-in-None-clause-err
returns-in-None-clause-err c = (refl, no_feed _ _ _ _ _ _ (omega arith) c.loop-place.invariant c.in-None.ensures)
