use Rattle.alw_trace.proofs.LineTexts.{no_second}
use Rattle.alw_trace.proofs.lines.pair_behind.Goals as goal

pub returns-in_err-second-clause-none : goal.returns-in_err-second-clause-none
returns-in_err-second-clause-none c =
    rw c.from_residual-in_err-second.ensures (no_second _ _ _ _ c.in_ok-first.ensures.range c.in_ok-first.ensures.found c.in_err-second.ensures.none)
