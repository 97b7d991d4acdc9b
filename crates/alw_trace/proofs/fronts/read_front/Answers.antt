use Rattle.std.proofs.Common.{arith}
use Rattle.std.proofs.lemmas.Result.{err_from_is_err_and}
use Rattle.alw_trace.proofs.FrontReads.{no_front, wrong_front, front_read}
use Rattle.alw_trace.proofs.fronts.read_front.Goals as goal

pub returns-in_err-lines-clause-err : goal.returns-in_err-lines-clause-err
returns-in_err-lines-clause-err c =
    let e = err_from_is_err_and c.from_residual.result c.from_residual.ensures.1 in
    rw (e.1, e.2) (no_front _ _ _ c.in_err-lines.ensures.err)

pub returns-in_err-trace-clause-err : goal.returns-in_err-trace-clause-err
returns-in_err-trace-clause-err c =
    let e = err_from_is_err_and c.from_residual-in_err-trace.result c.from_residual-in_err-trace.ensures.1 in
    rw (e.1, e.2) (wrong_front c.in_ok-lines.ensures.ok _ c.in_err-trace.ensures.err)

pub returns-clause-ok : goal.returns-clause-ok
returns-clause-ok c = front_read c.in_ok-lines.ensures.ok _ _ _ c.in_ok-trace.ensures.ok c.line_behind.ensures.line c.line_behind.ensures.range
    (omega (arith, c.from.ensures, c.len.ensures))
