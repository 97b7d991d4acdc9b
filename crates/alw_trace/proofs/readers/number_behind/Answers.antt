use Rattle.alw_trace.proofs.Numbers.{no_number_behind}
use Rattle.alw_trace.proofs.readers.number_behind.Goals as goal

pub returns-in_err-number-clause-none : goal.returns-in_err-number-clause-none
returns-in_err-number-clause-none c = rw c.from_residual-in_err-number.ensures (no_number_behind _ _ _ _ c.in_ok-rest.ensures c.in_err-number.ensures.none)
