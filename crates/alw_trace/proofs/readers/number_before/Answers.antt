-- Each exit is one place at which no number goes on.
use Rattle.std.proofs.Common.{arith}
use Rattle.alw_trace.proofs.Digits.{first_read, none_at_first, none_further, none_at_end}
use Rattle.alw_trace.proofs.readers.number_before.Goals as goal

pub returns-in_err-number-clause-none : goal.returns-in_err-number-clause-none
returns-in_err-number-clause-none c =
    rw c.from_residual-in_err-number.ensures (none_at_first _ _ _ _ c.in_ok-first.ensures.cases.0 c.in_err-number.ensures.none)

pub loop-byte-init : goal.loop-byte-init
loop-byte-init c = (
  first_read _ _ _ _ c.in_ok-first.ensures.cases.0 c.in_ok-number.ensures.some.0 c.in_ok-number.ensures.some.1,
  omega (arith, c.in_ok-number.ensures.some),
)

pub returns-in_err-number-2-clause-none : goal.returns-in_err-number-2-clause-none
returns-in_err-number-2-clause-none c =
    rw c.from_residual-in_err-number-2.ensures
    (none_further _ _ _ _ _ _ c.loop-byte.invariant.1 c.requires c.loop-byte.invariant.0 c.in-Some.ensures.cases.0 c.if-byte-stop.false
    c.in_err-number-2.ensures.none)

pub returns-clause-none : goal.returns-clause-none
returns-clause-none c = none_at_end _ _ _ _ c.loop-byte.invariant.1 c.requires c.loop-byte.invariant.0 c.in_default.ensures.cases
