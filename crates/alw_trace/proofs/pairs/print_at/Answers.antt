use Rattle.alw_trace.proofs.PairReads.{no_printed}
use Rattle.alw_trace.proofs.pairs.print_at.Goals as goal

pub returns-in_err-word-clause-none : goal.returns-in_err-word-clause-none
returns-in_err-word-clause-none c =
    rw c.from_residual-in_err-word.ensures (no_printed _ _ _ c.in_ok-context.ensures.range c.in_ok-context.ensures.found c.in_err-word.ensures.none)
