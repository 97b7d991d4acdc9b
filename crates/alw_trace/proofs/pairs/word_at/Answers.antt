use Rattle.alw_trace.proofs.PairReads.{no_stored}
use Rattle.alw_trace.proofs.pairs.word_at.Goals as goal

pub returns-in_err-word-clause-none : goal.returns-in_err-word-clause-none
returns-in_err-word-clause-none c = rw c.from_residual-in_err-word.ensures (no_stored _ _ _ c.in_ok-address.ensures.found c.in_err-word.ensures.none)
