use Rattle.alw_trace.proofs.LineTexts.{no_event}
use Rattle.alw_trace.proofs.lines.entry_at.Goals as goal

pub returns-in_err-event-clause-none : goal.returns-in_err-event-clause-none
returns-in_err-event-clause-none c =
    rw c.from_residual-in_err-event.ensures (no_event _ _ _ c.in_ok-stamp.ensures.range c.in_ok-stamp.ensures.found c.in_err-event.ensures.none)
