use Rattle.alw_trace.proofs.InRange.{answers, typed}
use Rattle.alw_trace.proofs.reading.read_trace.Goals as goal

pub returns-clause-read : goal.returns-clause-read
returns-clause-read c = answers _ _ _ c.in_ok-lines.ensures.ok c.trace_of.ensures.ok c.trace_of.ensures.err

pub returns-clause-types : goal.returns-clause-types
returns-clause-types c = typed _ _ _ c.in_ok-lines.ensures.ok c.trace_of.ensures.ok
