-- The first line out of range.
use Rattle.std.proofs.Common.{◌∙◌, arith}
use Rattle.std.proofs.lemmas.Result.{err_from_is_err_and}
use Rattle.alw_trace.proofs.InRange.{wrong_params, wrong_count, wrong_entry}
use Rattle.alw_trace.proofs.reading.trace_of.Goals as goal

pub returns-in_default-clause-err : goal.returns-in_default-clause-err
returns-in_default-clause-err c = wrong_params _ _ _ _ _ c.bytes.ensures c.in_ok-image.ensures.ok c.line_behind-line.ensures.line
    (c.from-nodes.ensures ∙ c.nodes.ensures.count) c.in_default.ensures.none

pub returns-then-len-from-clause-err : goal.returns-then-len-from-clause-err
returns-then-len-from-clause-err c =
    wrong_count _ c.args.lines.now _ _ _ c.bytes.ensures c.in_ok-image.ensures.ok c.line_behind-line.ensures.line
    (c.from-nodes.ensures ∙ c.nodes.ensures.count) c.in-Some.ensures.fits (omega (arith, c.len.ensures, c.from.ensures))

pub returns-in_err-journal-clause-err : goal.returns-in_err-journal-clause-err
returns-in_err-journal-clause-err c =
    let e = err_from_is_err_and c.from_residual-in_err-journal.result c.from_residual-in_err-journal.ensures.1 in
    rw (e.1, e.2) (wrong_entry _ c.args.lines.now _ _ _ _ _ _ _ c.bytes.ensures c.in_ok-image.ensures.ok c.line_behind-line.ensures.line
    (c.from-nodes.ensures ∙ c.nodes.ensures.count) c.in-Some.ensures.fits (omega (arith, c.len.ensures, c.from.ensures))
    c.in-Some.ensures.some c.sets.ensures.value c.deref.ensures.value c.in_err-journal.ensures.err)
