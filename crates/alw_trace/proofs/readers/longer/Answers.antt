-- A number's spelling goes on with a digit, where it isn't 0 and the number that it then spells is below 2^64.
use Rattle.std.proofs.Common.{arith}
use Rattle.alw_trace.proofs.Digits.{no_digit, behind_zero, longer_some, longer_none}
use Rattle.alw_trace.proofs.readers.longer.Goals as goal

pub returns-in_err-digit-clause-none : goal.returns-in_err-digit-clause-none
returns-in_err-digit-clause-none c = rw c.from_residual.ensures (no_digit _ _ c.in_err-digit.ensures.none)

pub returns-then-number-eq0-clause-none : goal.returns-then-number-eq0-clause-none
returns-then-number-eq0-clause-none c = behind_zero _ _ c.if-number-eq0.true

pub returns-clause-some : goal.returns-clause-some
returns-clause-some c = longer_some _ _ _ _ c.if-number-eq0.false c.in_ok-digit.ensures.some c.with_digit.ensures

pub returns-clause-none : goal.returns-clause-none
returns-clause-none c = longer_none _ _ _ _ (omega arith) c.in_ok-digit.ensures.some c.with_digit.ensures
