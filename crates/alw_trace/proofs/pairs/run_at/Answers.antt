use Rattle.alw_trace.proofs.PairReads.{no_count}
use Rattle.alw_trace.proofs.pairs.run_at.Goals as goal

pub returns-in_err-count-clause-none : goal.returns-in_err-count-clause-none
returns-in_err-count-clause-none c =
    rw c.from_residual-in_err-count.ensures (no_count _ _ _ c.in_ok-context.ensures.range c.in_ok-context.ensures.found c.in_err-count.ensures.none)
