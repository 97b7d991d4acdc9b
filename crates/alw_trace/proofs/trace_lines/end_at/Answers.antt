use Rattle.std.proofs.Common.{sym}
use Rattle.alw_trace.proofs.LineReads.{more_behind}
use Rattle.alw_trace.proofs.trace_lines.end_at.Goals as goal

pub returns-else-is_empty-clause-err : goal.returns-else-is_empty-clause-err
returns-else-is_empty-clause-err c = more_behind _ _ _ c.in-Some.ensures (sym c.if-is_empty.ensures)
