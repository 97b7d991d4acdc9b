use Rattle.alw_trace.proofs.LineTexts.{params_found, no_pointers, no_sets, no_limit}
use Rattle.alw_trace.proofs.lines.params_at.Goals as goal

pub returns-in_err-pointers-clause-none : goal.returns-in_err-pointers-clause-none
returns-in_err-pointers-clause-none c = rw c.from_residual.ensures (no_pointers _ c.in_err-pointers.ensures.none)

pub returns-in_err-sets-clause-none : goal.returns-in_err-sets-clause-none
returns-in_err-sets-clause-none c =
    rw c.from_residual-in_err-sets.ensures (no_sets _ _ _ c.in_ok-pointers.ensures.range c.in_ok-pointers.ensures.found c.in_err-sets.ensures.none)

pub returns-in_err-limit-clause-none : goal.returns-in_err-limit-clause-none
returns-in_err-limit-clause-none c =
    rw c.from_residual-in_err-limit.ensures
    (no_limit _ _ _ _ _ c.in_ok-pointers.ensures.range c.in_ok-sets.ensures.range c.in_ok-pointers.ensures.found c.in_ok-sets.ensures.found
    c.in_err-limit.ensures.none)

pub returns-clause-found : goal.returns-clause-found
returns-clause-found c = params_found _ _ _ _ _ c.in_ok-pointers.ensures.found c.in_ok-sets.ensures.found c.in_ok-limit.ensures.found
