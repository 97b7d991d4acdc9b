-- What isn't the front of a trace, or goes on otherwise, is no trace.
use Rattle.std.proofs.lemmas.Result.{err_from_is_err_and}
use Rattle.alw_trace.proofs.LineReads.{front_lacks, end_lacks, whole}
use Rattle.alw_trace.proofs.trace_lines.read_lines.Goals as goal

pub returns-in_err-lines-clause-err : goal.returns-in_err-lines-clause-err
returns-in_err-lines-clause-err c =
    let e = err_from_is_err_and c.from_residual.result c.from_residual.ensures.1 in
    rw (e.1, e.2) (front_lacks _ _ c.in_err-lines.ensures.err)

pub returns-in_err-end_at-clause-err : goal.returns-in_err-end_at-clause-err
returns-in_err-end_at-clause-err c =
    let e = err_from_is_err_and c.from_residual-in_err-end_at.result c.from_residual-in_err-end_at.ensures.1 in
    rw (e.1, e.2) (end_lacks _ _ _ _ _ c.in_ok-lines.ensures.ok c.last_line.ensures.line c.in_err-end_at.ensures.err)

pub returns-clause-ok : goal.returns-clause-ok
returns-clause-ok c = whole _ _ _ c.in_ok-lines.ensures.ok c.in_ok-end_at.ensures.ok
